-- What is said of the commands of a replay at its end.
use Rattle.std.specs.Prelude.{ℕ, List, ◌∷◌, [], codes}
use Rattle.std.specs.Fmt.{decimal}
use Rattle.std.specs.List.{concat}

-- how many of them were refused, and in which line the first of these is
abbrev pub refused_text : ℕ → ℕ → List ℕ
refused_text refused first = concat (decimal refused ∷ codes " refused, the first in line " ∷ decimal first ∷ [])
