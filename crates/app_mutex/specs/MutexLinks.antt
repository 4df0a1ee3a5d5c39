-- The link table of neighbour exclusion: what no link shows where those that are in hold their turns.
use Rattle.std.specs.Prelude.{ℕ, ◌&&◌, Bool, List, [], ◌∷◌, Option, codes}
use Rattle.action_tables.specs.Table.{Row}
use Rattle.app_interface.specs.LinkTables.{least_fault, link_row}
use Rattle.app_mutex.specs.Turns.{holds_turn}
use Rattle.app_mutex.specs.declared.local.MutexLocal.{MutexLocal}

-- both ends are in
abbrev pub two_in : MutexLocal → MutexLocal → Bool
two_in own theirs = own.inside && theirs.inside

-- node i is in, and the turn of its link to j is j's
abbrev pub in_without_turn : ℕ → ℕ → MutexLocal → MutexLocal → Bool
in_without_turn i j own theirs = own.inside && holds_turn j theirs.bit i own.bit

-- the rows of the link between node i and its neighbour j, asked at i. A row that holds is a fault
abbrev pub mutex_links : ℕ → ℕ → MutexLocal → MutexLocal → List (Row (Unit {0}))
mutex_links i j own theirs =
    link_row 1 (codes "two-in") (codes "own is in, other is in") (two_in own theirs)
    ∷ link_row 2 (codes "no-turn") (codes "own is in, the turn is the other's") (in_without_turn i j own theirs)
    ∷ []

-- the least of the rows that hold
abbrev pub mutex_link_fault : ℕ → ℕ → MutexLocal → MutexLocal → Option ℕ
mutex_link_fault i j own theirs = least_fault (mutex_links i j own theirs)
