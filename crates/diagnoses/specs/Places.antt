-- Places of a text.
use Rattle.std.specs.Prelude.{ℕ, List, length, take}
use Rattle.script_replay.specs.Lines.{lines_of}

-- the number of the line in which a place of a text is, counted from 1: so many lines have begun there
abbrev pub line_at : List ℕ → ℕ → ℕ
line_at text at = length (lines_of (take at text))
