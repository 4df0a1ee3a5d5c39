-- Identifiers and ascending numbers, as tests.
use Rattle.std.specs.Prelude.{ℕ, ◌&&◌, Bool, true, ltb, List, [], ◌∷◌}

-- which numbers are identifiers
abbrev pub is_id : ℕ → Bool
is_id j = ltb 0 j && ltb j 65536

-- each number is below the next
abbrev pub ascends : List ℕ → Bool
ascends [] = true
ascends (n ∷ []) = true
ascends (m ∷ n ∷ ns) = ltb m n && ascends (n ∷ ns)
