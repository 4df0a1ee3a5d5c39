-- How a violation of an invariant is written.
use Rattle.std.specs.Prelude.{ℕ, List, ◌∷◌, ◌++◌}
use Rattle.std.specs.Fmt.{decimal}

-- the words, a space, and the number in digits
abbrev pub violation_text : List ℕ → ℕ → List ℕ
violation_text words number = words ++ 32 ∷ decimal number
