-- Which faults a list of nodes and a list of links have.
use Rattle.std.specs.Prelude.{◌≡◌, ℕ, ◌<◌, min, max, List, [], ◌∷◌, ◌++◌, length, Contains, map, flat_map}
use Rattle.std.specs.Prelude.{◌⊎◌, ◌↔◌}
use Rattle.topology.specs.Graph.{Graph, IsNode, AreLinked, IsGraph}
use Rattle.topology.specs.Id.{IsId}
use Rattle.topology.specs.declared.fault.TopoFault.{TopoFault}
use Rattle.topology.specs.declared.fault.TopoFault.TheVariants.{NoNodes, TooManyNodes, BadId, TwiceNode, TooManyLinks}
use Rattle.topology.specs.declared.fault.TopoFault.TheVariants.{StrangeNode, SelfLink, TwiceLink}
use Rattle.topology.specs.declared.fault.TopoFault.TheVariants.{NoMemory, NoSuchLink, LinkIsThere, NodeIsUp}

-- x is the first of the list that meets P
pub record IsFirst {X : Type 0} (P : X → Type 0) (xs : List X) (x : X) : Type 0 where
  pub prefix : List X
  pub rest : List X
  pub whole : xs ≡ prefix ++ x ∷ rest
  pub before : (y : X) → Contains prefix y → P y → ⊥
  pub here : P x

-- an x of the list repeats an earlier one
pub record IsRepeated {X : Type 0} (xs : List X) (x : X) : Type 0 where
  pub prefix : List X
  pub rest : List X
  pub whole : xs ≡ prefix ++ x ∷ rest
  pub earlier : Contains prefix x

-- and nothing before it repeats an earlier one
pub record IsFirstRepeat {X : Type 0} (xs : List X) (x : X) : Type 0 where
  pub prefix : List X
  pub rest : List X
  pub whole : xs ≡ prefix ++ x ∷ rest
  pub earlier : Contains prefix x
  pub distinct : (y : X) → IsRepeated prefix y → ⊥

-- the graph has exactly these nodes and links, and no other identifiers: all are up
pub record IsGraphOf (nodes : List ℕ) (links : List (ℕ × ℕ)) (g : Graph) : Type 0 where
  pub as_graph : IsGraph g
  pub up : g.nodes ≡ g.ids
  pub same_nodes : (i : ℕ) → (IsNode g i ↔ Contains nodes i)
  pub same_links : (a b : ℕ) → (AreLinked g a b ↔ (Contains links (a, b) ⊎ Contains links (b, a)))

-- the ends of the links, in order
abbrev pub ends_of : List (ℕ × ℕ) → List ℕ
ends_of links = flat_map (λ l. l.0 ∷ l.1 ∷ []) links

-- each link with its lesser end first
abbrev pub ordered_links : List (ℕ × ℕ) → List (ℕ × ℕ)
ordered_links links = map (λ l. (min l.0 l.1, max l.0 l.1)) links

-- the lists have this fault
abbrev pub HasFault : List ℕ → List (ℕ × ℕ) → TopoFault → Type 0
HasFault nodes links NoNodes = nodes ≡ []
HasFault nodes links TooManyNodes = 1024 < length nodes
HasFault nodes links (BadId n) = IsFirst (λ i. IsId i → ⊥) nodes n
HasFault nodes links (TwiceNode n) = IsFirstRepeat nodes n
HasFault nodes links TooManyLinks = 8192 < length links
HasFault nodes links (StrangeNode n) = IsFirst (λ i. Contains nodes i → ⊥) (ends_of links) n
HasFault nodes links (SelfLink n) = IsFirst (λ l. l.0 ≡ l.1) links (n, n)
HasFault nodes links (TwiceLink a b) = IsFirstRepeat (ordered_links links) (a, b)
HasFault nodes links NoMemory = ⊥
HasFault nodes links NoSuchLink = ⊥
HasFault nodes links LinkIsThere = ⊥
HasFault nodes links NodeIsUp = ⊥

-- the place of a fault in the order in which they are named; 13 to 18 are the faults of texts
abbrev pub rank_of : TopoFault → ℕ
rank_of NoNodes = 1
rank_of TooManyNodes = 2
rank_of (BadId n) = 3
rank_of (TwiceNode n) = 4
rank_of TooManyLinks = 5
rank_of (StrangeNode n) = 6
rank_of (SelfLink n) = 7
rank_of (TwiceLink a b) = 8
rank_of NoMemory = 10
rank_of NoSuchLink = 11
rank_of LinkIsThere = 12
rank_of NodeIsUp = 19

-- the lists have the fault, and none that comes before it
pub record IsFirstFault (nodes : List ℕ) (links : List (ℕ × ℕ)) (f : TopoFault) : Type 0 where
  pub fault : HasFault nodes links f
  pub first : (e : TopoFault) → rank_of e < rank_of f → HasFault nodes links e → ⊥

-- a topology of these lists: they have no fault, and it has exactly these nodes and links
pub record IsTopologyOf (nodes : List ℕ) (links : List (ℕ × ℕ)) (g : Graph) : Type 0 where
  pub sound : (f : TopoFault) → HasFault nodes links f → ⊥
  pub exact : IsGraphOf nodes links g
