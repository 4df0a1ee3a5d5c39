-- What the clauses of private functions cite.
use Rattle.std.specs.Prelude.{◌≡◌, ℕ, nat_lt, if◌then◌else◌, Bool, true, false, List, [], ◌++◌, filter, map, length, Option}
use Rattle.std.specs.Io.KnownBytes.{Consumes}
use Rattle.topology.specs.Graph.{Graph, neighbours_of}
use Rattle.reset_model.specs.Configuration.{Configuration}
use Rattle.reset_model.specs.EventText.{event_line, Fits}
use Rattle.applications.specs.Meaning.{Meaning}
use Rattle.history.specs.Book.{BookView}
use Rattle.history.specs.declared.entry.Entry.{Entry}
use Rattle.script_replay.specs.Left.{unless_bad}
use Rattle.script_replay.specs.Output.{answer_to, link_line}
use Rattle.script_replay.specs.Recorded.{line_entries}
use Rattle.script_replay.specs.declared.next_line.NextLine.{NextLine}
use Rattle.script_replay.specs.declared.next_line.NextLine.TheVariants.{Event, Text}
use Rattle.script_replay.specs.declared.script.Line.{Line}
use Rattle.script_replay.specs.declared.status.Status.{Status}

-- a text grew by n bytes of a reader
pub record ReadMore (before after : Option (List ℕ)) (old new : List ℕ) (n : ℕ) : Type 0 where
  pub bytes : List ℕ
  pub consumed : Consumes before after bytes
  pub appended : new ≡ old ++ bytes
  pub count : length bytes ≡ n

-- the text of a line
abbrev pub next_text : NextLine → List ℕ
next_text (Event e) = event_line e
next_text (Text text) = text.now

-- the numbers of the event of a line, if it stands for one, are in their range
abbrev pub HasFitting : NextLine → Type 0
HasFitting (Event e) = Fits e
HasFitting (Text text) = Unit {0}

-- a book with these entries more, which left this
abbrev pub with_entries : {L : Type 0} → BookView L → List Entry → Configuration L → BookView L
with_entries b entries left =
    record { opening = b.opening; entries = b.entries ++ entries; config = left; limit = b.limit }

-- the entries of a line were added to a book, and this is whether the line is good; its number is told nowhere
pub record IsNoted {L : Type 0} (m : Meaning L) (line : Line) (old new : BookView L) (status : Status) : Type 0 where
  pub book : (n : ℕ) → new ≡ with_entries old (line_entries m old.config line) (answer_to m old.config n line).config
  pub good : (n : ℕ) → status ≡ (answer_to m old.config n line).status

-- what a line asks for was done, whatever it answers, and this is whether the line is good
pub record IsPassed {L : Type 0} (m : Meaning L) (line : Line) (c c' : Configuration L) (is_good : Bool) : Type 0 where
  pub config : (n : ℕ) → c' ≡ (answer_to m c n line).config
  pub good : is_good ≡ unless_bad line true false

-- the links of a node with greater ones, ascending
abbrev pub links_from : Graph → ℕ → List (ℕ × ℕ)
links_from g i = map (λ j. (i, j)) (filter (nat_lt i) (neighbours_of g i))

-- the line of a link at its lesser end, and nothing at its greater one
abbrev pub line_from : ℕ → ℕ → List ℕ
line_from i j = if nat_lt i j then link_line (i, j) else []
