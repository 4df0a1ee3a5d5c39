-- The rows and the nodes that texts name, of which a picture is drawn.
use Rattle.std.specs.Prelude.{◌≡◌, ◌≢◌, ℕ, ◌≤◌, List, [], ◌++◌, map, filter, codes, All, Option, Some, None}
use Rattle.std.specs.Fmt.{decimal}
use Rattle.std.specs.List.{join_with_byte}
use Rattle.topology.specs.Graph.{Graph, has}
use Rattle.topology.specs.Id.{IsId}

-- the first and the last row that may be asked for
pub record AreRows (rows : ℕ × ℕ) : Type 0 where
  pub positive : 1 ≤ rows.0
  pub in_turn : rows.0 ≤ rows.1
  pub small : rows.1 ≤ 1000000

-- the text names these as the first and the last row
pub record NamesRows (text : List ℕ) (rows : ℕ × ℕ) : Type 0 where
  pub spelling : text ≡ decimal rows.0 ++ (codes ".." ++ decimal rows.1)
  pub valid : AreRows rows

-- the text names these identifiers, at least one
pub record NamesNodes (text : List ℕ) (ids : List ℕ) : Type 0 where
  pub spelling : text ≡ join_with_byte 44 (map decimal ids)
  pub some : ids ≢ []
  pub valid : All IsId ids

-- what the text that may be given names; nothing is named where none is given
abbrev pub IsNamed : {X : Type 0} → (List ℕ → X → Type 0) → Option (List ℕ) → Option X → Type 0
IsNamed Names given None = given ≡ None
IsNamed Names given (Some named) = (text : List ℕ) × (given ≡ Some text) × Names text named

-- a text is given that names nothing
abbrev pub NamesNothing : {X : Type 0} → (List ℕ → X → Type 0) → Option (List ℕ) → Type 0
NamesNothing {X = X} Names given = (text : List ℕ) × (given ≡ Some text) × ((named : X) → Names text named → ⊥)

-- the nodes that a picture has lanes for: all identifiers of the topology, or those that are named, in its order
abbrev pub lanes_of : Graph → Option (List ℕ) → List ℕ
lanes_of g None = g.ids
lanes_of g (Some ids) = filter (λ i. has ids i) g.ids
