-- What deciding the routes of a component needs.
use Rattle.std.specs.Prelude.{◌≡◌, ℕ, ◌<◌, ◌≤◌, List, All, Contains, length, slice_index}
use Rattle.std.specs.List.Sorted.{IsStrictlyIncreasing}
use Rattle.topology.specs.Graph.{Graph, IsReached}
use Rattle.app_routes.specs.declared.entry.Entry.{Entry}
use Rattle.app_invariants.specs.Parities.{AreTables}

-- indexes, ascending, that no walk leads out of
pub record AreMembers (g : Graph) (members : List ℕ) : Type 0 where
  pub within : All (λ k. k < length g.ids) members
  pub few : length members ≤ length g.ids
  pub ascending : IsStrictlyIncreasing members
  pub closed : (i k : ℕ) → Contains members i → k < length g.ids
      → IsReached g (slice_index g.ids i) (slice_index g.ids k) → Contains members k

-- such indexes, with the tables of the walks to the nodes there, and the routing tables of all identifiers
pub record ArePrepared (g : Graph) (members : List ℕ) (tables : List (List ℕ)) (states : List (List Entry)) : Type 0 where
  pub are_members : AreMembers g members
  pub are_tables : AreTables g members tables
  pub count : length states ≡ length g.ids
