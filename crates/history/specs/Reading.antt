-- What was read of a history's text so far.
use Rattle.std.specs.Prelude.{◌≡◌, ℕ, ◌+◌, ◌≤◌, List, [], ◌++◌, length, Option, Some, None, Err}
use Rattle.action_tables.specs.Cuts.{HasNo}
use Rattle.history.specs.declared.entry.Entry.{Entry}
use Rattle.history.specs.declared.lines.Lines.{Lines}
use Rattle.history.specs.declared.lines.Reading.{Reading}
use Rattle.history.specs.declared.read.Header.{Header}
use Rattle.history.specs.declared.text.BookFault.{BookFault}
use Rattle.history.specs.declared.text.BookFault.TheVariants.{BadLine, BadVersion}
use Rattle.history.specs.HistoryText.{Begins, IsFirstLine, IsOtherVersion, IsReadAs, version_line}

-- the text is a first line that says this, once one was read, and the lines of these entries, and then goes on with
-- this
abbrev pub IsSoFar : Option Header → List Entry → List ℕ → List ℕ → Type 0
IsSoFar (Some h) es line text = Begins text h.version h.modulus es line
IsSoFar None es line text = (es ≡ []) × (text ≡ line)

-- the number of the next line, after so many entries
abbrev pub next_line : Option Header → ℕ → ℕ
next_line (Some h) count = count + 2
next_line None count = 1

-- the entries of the lines, those before which were taken already, were counted, and the text is the lines, and then
-- goes on with this
pub record GoesOn (lines : Lines) (before : List Entry) (line text : List ℕ) : Type 0 where
  pub counted : lines.count ≡ length (before ++ lines.entries.items)
  pub so_far : IsSoFar lines.header (before ++ lines.entries.items) line text

-- the text was read, and ends in a line that goes on
pub record HasRead (r : Reading) (before : List Entry) (text : List ℕ) : Type 0 where
  pub lines : GoesOn r.lines before r.line.items text
  pub plain : HasNo 10 r.line.items
  pub short : length r.line.items ≤ 256

-- however the text goes on, it is read as this fault
abbrev pub IsFaulty : List ℕ → BookFault → Type 0
IsFaulty text fault = (more : List ℕ) → IsReadAs (text ++ more) (Err fault)

-- a version whose first line names a modulus
abbrev pub NamesModulus : ℕ → Type 0
NamesModulus version = (2 ≤ version) × (version ≤ 3)

-- a text whose first line this is has another version, or none
abbrev pub IsBadVersion : List ℕ → BookFault → Type 0
IsBadVersion line BadVersion = (version : ℕ) × IsOtherVersion version × (line ≡ version_line version)
IsBadVersion line (BadLine n) =
    (n ≡ 1) × ((version m : ℕ) → IsFirstLine version m line → ⊥)
    × ((version : ℕ) → IsOtherVersion version → line ≡ version_line version → ⊥)
IsBadVersion line _ = ⊥
