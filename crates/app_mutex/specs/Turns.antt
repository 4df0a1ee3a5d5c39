-- Whose turn it is at a link, and the invariant of neighbour exclusion.
use Rattle.std.specs.Prelude.{◌≡◌, ℕ, nat_lt, if◌then◌else◌, Bool, true, false, not}
use Rattle.topology.specs.Graph.{Graph, AreLinked}
use Rattle.app_mutex.specs.declared.local.MutexLocal.{MutexLocal}

-- two bits are the same
abbrev pub equal : Bool → Bool → Bool
equal true c = c
equal false c = not c

-- whether the turn of the link between i, whose bit is b, and j, whose bit is c, is i's: the lesser of
-- the two has it where their bits are equal, and the greater where they differ
abbrev pub holds_turn : ℕ → Bool → ℕ → Bool → Bool
holds_turn i b j c = if nat_lt i j then equal b c else not (equal b c)

-- whoever is in holds the turn of each of its links
abbrev pub HoldsTurns : Graph → (ℕ → MutexLocal) → Type 0
HoldsTurns g v = (i j : ℕ) → AreLinked g i j → (v i).inside ≡ true → holds_turn i (v i).bit j (v j).bit ≡ true
