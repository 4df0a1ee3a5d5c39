-- A text that is one word of a line.
use Rattle.std.specs.Prelude.{◌≢◌, ℕ, List, [], IsTrue}
use Rattle.std.specs.Char.{is_ascii_graphic}
use Rattle.std.specs.List.{list_all}

-- it isn't empty, and its bytes are from 33 to 126
abbrev pub IsPrintableWord : List ℕ → Type 0
IsPrintableWord text = (text ≢ []) × IsTrue (list_all is_ascii_graphic text)
