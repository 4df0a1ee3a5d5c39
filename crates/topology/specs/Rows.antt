-- A graph kept as rows: for each index of an id, the indexes of its neighbours.
use Rattle.std.specs.Prelude.{◌≡◌, ℕ, ◌<◌, ◌≤◌, Bool, true, false, List, [], All, Option, None, map, length, position}
use Rattle.std.specs.Prelude.{slice_index, slice_index_or, ◌==◌, ◌*◌, if◌then◌else◌, Contains, refl}
use Rattle.std.specs.List.{flat_map, range_with_len}
use Rattle.std.specs.List.Sorted.{IsStrictlyIncreasing}
use Rattle.std.specs.Coded.{Coded, code_by, coded×, coded_ℕ, coded_list}
use Rattle.std.specs.FinSet as set
use Rattle.topology.specs.Graph.{Graph, pair_cmp, has}
use Rattle.topology.specs.Components.{leader}
use Rattle.topology.specs.Id.{IsId}
use Rattle.topology.specs.declared.fault.TheConstants.{MAX_NODES}

-- the row of an index
abbrev pub row_at : List (List ℕ) → ℕ → List ℕ
row_at rows i = slice_index_or rows i []

-- whether the row of i has j
abbrev pub near_has : List (List ℕ) → ℕ → ℕ → Bool
near_has rows i j = has (row_at rows i) j

-- the id at i with each id of its row
abbrev pub pairs_at : List ℕ → List (List ℕ) → ℕ → List (ℕ × ℕ)
pairs_at ids rows i = map (λ j. (slice_index ids i, slice_index ids j)) (row_at rows i)

-- the pairs of all rows
unfoldable pub links_of : List ℕ → List (List ℕ) → set.FinSet pair_cmp
links_of ids rows = set.from_list (flat_map (pairs_at ids rows) (range_with_len 0 (length ids)))

abbrev pub graph_of : List ℕ → List ℕ → List (List ℕ) → Graph
graph_of ids nodes rows = record { ids = ids; nodes = nodes; links = links_of ids rows }

-- as many rows as there are indexes, each with ascending indexes, in both directions, none with its own
pub record AreRows (n : ℕ) (rows : List (List ℕ)) : Type 0 where
  pub count : length rows ≡ n
  pub ascending : (i : ℕ) → IsStrictlyIncreasing (row_at rows i)
  pub within : (i j : ℕ) → near_has rows i j ≡ true → j < n
  pub symmetric : (i j : ℕ) → near_has rows i j ≡ near_has rows j i
  pub irreflexive : (i : ℕ) → near_has rows i i ≡ false

-- one to MAX_NODES identifiers, in ascending order
pub record AreIds (ids : List ℕ) : Type 0 where
  pub some : 0 < length ids
  pub small : length ids ≤ MAX_NODES
  pub valid : All IsId ids
  pub ascending : IsStrictlyIncreasing ids

-- some of the identifiers, in ascending order
pub record AreNodes (ids nodes : List ℕ) : Type 0 where
  pub rising : IsStrictlyIncreasing nodes
  pub within : (i : ℕ) → Contains nodes i → Contains ids i

-- all identifiers, and those of them that are up
pub record Membership : Type 0 where
  pub ids : List ℕ
  pub nodes : List ℕ

-- a membership is stored as the pair of its parts
abbrev pub membership_code : Coded Membership
membership_code =
    code_by (List ℕ × List ℕ) (coded× (coded_list coded_ℕ) (coded_list coded_ℕ)) (λ r. (r.ids, r.nodes))
    (λ p. record { ids = p.0; nodes = p.1 }) (λ _. refl)

-- the table has at each node its index among the ids, and at no other number anything
abbrev pub AreIndexes : List ℕ → List ℕ → List (Option ℕ) → Type 0
AreIndexes ids nodes indexes =
    (id : ℕ) → slice_index_or indexes id None ≡ (if has nodes id then position (λ i. i == id) ids else None)

-- identifiers and nodes, and the table of the indexes of the nodes, with room for each identifier
pub record AreIndexed (members : Membership) (indexes : List (Option ℕ)) : Type 0 where
  pub as_ids : AreIds members.ids
  pub as_nodes : AreNodes members.ids members.nodes
  pub as_indexes : AreIndexes members.ids members.nodes indexes
  pub room : (k : ℕ) → k < length members.ids → slice_index members.ids k < length indexes

-- identifiers, nodes and rows, of which those at nodes alone have indexes
pub record AreTied (ids nodes : List ℕ) (rows : List (List ℕ)) : Type 0 where
  pub as_ids : AreIds ids
  pub as_nodes : AreNodes ids nodes
  pub as_rows : AreRows (length ids) rows
  pub ends : (i j : ℕ) → near_has rows i j ≡ true → has nodes (slice_index ids i) ≡ true

-- the table has at the index of each node the index of its leader
pub record AreLeaders (ids nodes : List ℕ) (rows : List (List ℕ)) (leaders : List ℕ) : Type 0 where
  pub count : length leaders ≡ length ids
  pub within : (k : ℕ) → k < length ids → slice_index leaders k < length ids
  pub leads : (k : ℕ) → k < length ids → has nodes (slice_index ids k) ≡ true
      → slice_index ids (slice_index leaders k) ≡ leader (graph_of ids nodes rows) (slice_index ids k)

-- whatever the n ids are that go with the rows, and the nodes
abbrev pub AreLeadersOf : ℕ → List (List ℕ) → List ℕ → Type 0
AreLeadersOf n rows leaders =
    (ids nodes : List ℕ) → AreTied ids nodes rows → length ids ≡ n → AreLeaders ids nodes rows leaders

-- what the fields of a topology are: rows, the table of the leaders, and two pairs for each link that is counted
pub record AreParts (ids nodes : List ℕ) (rows : List (List ℕ)) (leaders : List ℕ) (count : ℕ) : Type 0 where
  pub tied : AreTied ids nodes rows
  pub as_leaders : AreLeadersOf (length ids) rows leaders
  pub counted : 2 * count ≡ set.len (links_of ids rows)
