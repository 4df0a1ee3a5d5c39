-- The words of a line.
use Rattle.std.specs.Prelude.{ℕ, Bool, ◌==◌, List}
use Rattle.std.specs.List.{slice_split}

abbrev pub is_space : ℕ → Bool
is_space byte = byte == 32

-- what stands before, between and after the spaces of a line
abbrev pub words_of : List ℕ → List (List ℕ)
words_of line = slice_split is_space line
