-- One bit for each identifier, kept as the list of those whose bit is one.
use Rattle.std.specs.Prelude.{ℕ, ◌==◌, ◌&&◌, if◌then◌else◌, Bool, true, false, not, List, ◌∷◌, ◌++◌, All, ltb}
use Rattle.std.specs.List.{filter, list_all}
use Rattle.std.specs.List.Sorted.{IsStrictlyIncreasing}
use Rattle.topology.specs.Graph.{has}
use Rattle.topology.specs.Id.{IsId}
use Rattle.app_interface.specs.Ids.{ascends, is_id}

-- identifiers in strictly ascending order
pub record IsBits (ids : List ℕ) : Type 0 where
  pub ascending : IsStrictlyIncreasing ids
  pub are_ids : All IsId ids

-- the same as a test
abbrev pub are_bits : List ℕ → Bool
are_bits ids = ascends ids && list_all is_id ids

-- two bits are not the same
abbrev pub differ : Bool → Bool → Bool
differ true b = not b
differ false b = b

-- the list without j
abbrev pub without_id : List ℕ → ℕ → List ℕ
without_id ids j = filter (λ i. not (i == j)) ids

-- the lesser ones, j, and the greater ones
abbrev pub with_id : List ℕ → ℕ → List ℕ
with_id ids j = filter (λ i. ltb i j) ids ++ j ∷ filter (λ i. ltb j i) ids

-- the list with the bit of j turned over
abbrev pub toggled : List ℕ → ℕ → List ℕ
toggled ids j = if has ids j then without_id ids j else with_id ids j
