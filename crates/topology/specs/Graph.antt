-- Graphs, their walks, their distances and their leaders.
use Rattle.std.specs.Prelude.{◌≡◌, ◌≢◌, ℕ, ◌-◌, ◌<◌, ◌≤◌, ◌==◌, Bool, true, List, [], ◌∷◌, length, slice_index}
use Rattle.std.specs.Prelude.{Contains, filter, refl, ◌⊎◌, Option, None, position, if◌then◌else◌}
use Rattle.std.specs.List.{list_any}
use Rattle.std.specs.List.Sorted.{IsStrictlyIncreasing}
use Rattle.std.specs.Ordering.{nat_cmp}
use Rattle.std.specs.declared.cmp.Ordering.{Ordering}
use Rattle.std.specs.Cmp.Lexicographic.{slice_cmp}
use Rattle.std.specs.Coded.{Coded, code_by, coded×, coded_ℕ, coded_list}
use Rattle.std.specs.FinSet as set

-- pairs in order, by the first part and then by the second
abbrev pub pair_cmp : ℕ × ℕ → ℕ × ℕ → Ordering
pair_cmp p q = slice_cmp nat_cmp (p.0 ∷ p.1 ∷ []) (q.0 ∷ q.1 ∷ [])

-- all identifiers, those of them that are up, which are the nodes, and the set of linked pairs, each in
-- both directions; the graph's K is the number of all its identifiers
pub record Graph : Type 0 where
  pub ids : List ℕ
  pub nodes : List ℕ
  pub links : set.FinSet pair_cmp

-- a graph is stored as the tuple of its parts
abbrev pub graph_code : Coded Graph
graph_code =
    code_by (List ℕ × (List ℕ × set.FinSet pair_cmp))
    (coded× (coded_list coded_ℕ) (coded× (coded_list coded_ℕ) (set.code (coded× coded_ℕ coded_ℕ))))
    (λ g. (g.ids, (g.nodes, g.links))) (λ p. record { ids = p.0; nodes = p.1.0; links = p.1.1 }) (λ _. refl)

-- whether the list has x
abbrev pub has : List ℕ → ℕ → Bool
has xs x = list_any (λ y. y == x) xs

-- an identifier that is up
abbrev pub IsNode : Graph → ℕ → Type 0
IsNode g i = Contains g.nodes i

-- the same as a test
abbrev pub is_node : Graph → ℕ → Bool
is_node g i = has g.nodes i

-- the index of a node among all identifiers
abbrev pub node_at : Graph → ℕ → Option ℕ
node_at g id = if is_node g id then position (λ i. i == id) g.ids else None

abbrev pub are_linked : Graph → ℕ → ℕ → Bool
are_linked g a b = set.contains g.links (a, b)

abbrev pub AreLinked : Graph → ℕ → ℕ → Type 0
AreLinked g a b = are_linked g a b ≡ true

-- the bound of the distances, K: the number of all identifiers, up or down
abbrev pub node_bound : Graph → ℕ
node_bound g = length g.ids

-- the greatest id of the nodes
abbrev pub greatest : Graph → ℕ
greatest g = slice_index g.nodes (length g.nodes - 1)

-- the neighbours of a node, in ascending order
abbrev pub neighbours_of : Graph → ℕ → List ℕ
neighbours_of g i = filter (are_linked g i) g.ids

-- from a through the ids of the list to b, link by link
abbrev pub IsWalk : Graph → ℕ → List ℕ → ℕ → Type 0
IsWalk g a [] b = a ≡ b
IsWalk g a (c ∷ cs) b = AreLinked g a c × IsWalk g c cs b

-- some walk leads from a to b
abbrev pub IsReached : Graph → ℕ → ℕ → Type 0
IsReached g a b = (cs : List ℕ) × IsWalk g a cs b

-- d is the number of links of a walk, and no walk has fewer
pub record IsDistance (g : Graph) (a b d : ℕ) : Type 0 where
  pub walk : (cs : List ℕ) × IsWalk g a cs b × (length cs ≡ d)
  pub least : (cs : List ℕ) → IsWalk g a cs b → d ≤ length cs

-- d is the distance from a to b, below n; where no walk leads there, d is n
abbrev pub IsDistanceOrNone : ℕ → Graph → ℕ → ℕ → ℕ → Type 0
IsDistanceOrNone n g a b d = ((d < n) × IsDistance g a b d) ⊎ ((d ≡ n) × (IsReached g a b → ⊥))

-- the leader of a node i is the greatest id that a walk from i reaches
pub record IsLeader (g : Graph) (i leader : ℕ) : Type 0 where
  pub reached : IsReached g i leader
  pub greatest : (j : ℕ) → IsReached g i j → j ≤ leader

-- what each graph of the service is: some identifiers, of which any may be nodes, and links that join two
-- different nodes, in both directions
pub record IsGraph (g : Graph) : Type 0 where
  pub some : 0 < length g.ids
  pub ascending : IsStrictlyIncreasing g.ids
  pub rising : IsStrictlyIncreasing g.nodes
  pub within : (i : ℕ) → IsNode g i → Contains g.ids i
  pub symmetric : (a b : ℕ) → are_linked g a b ≡ are_linked g b a
  pub irreflexive : (a : ℕ) → AreLinked g a a → ⊥
  pub ends : (a b : ℕ) → AreLinked g a b → IsNode g a

abbrev pub IsConnected : Graph → Type 0
IsConnected g = (a b : ℕ) → IsNode g a → IsNode g b → IsReached g a b

-- at the nodes, new is old with the value of i replaced by x
pub record Changes {X : Type 0} (g : Graph) (old : ℕ → X) (i : ℕ) (x : X) (new : ℕ → X) : Type 0 where
  pub here : new i ≡ x
  pub others : (k : ℕ) → IsNode g k → k ≢ i → new k ≡ old k
