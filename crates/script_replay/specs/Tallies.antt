-- How the commands of a script were answered.
use Rattle.std.specs.Prelude.{ℕ, ◌+◌, nat_lt, Bool, if◌then◌else◌, List, [], ◌∷◌, ◌++◌, filter, length, None}
use Rattle.std.specs.List.{find}
use Rattle.std.specs.Option.{option_map, option_or}
use Rattle.reset_model.specs.Configuration.{Configuration}
use Rattle.applications.specs.Meaning.{Meaning}
use Rattle.script_replay.specs.Lines.{lines_of}
use Rattle.script_replay.specs.Marked.{is_refused, marked_answer}
use Rattle.script_replay.specs.Output.{if_good, line_answer}
use Rattle.script_replay.specs.Script.{is_silent}
use Rattle.script_replay.specs.declared.marked.Marks.{Marks}
use Rattle.script_replay.specs.declared.status.Status.{Status}
use Rattle.script_replay.specs.declared.tally.Tally.{Tally}

-- a command that was answered: the number of its line, and whether it was refused
pub record Answered : Type 0 where
  pub line : ℕ
  pub refused : Bool

-- the command of the n-th line, where the answer to the line has this status: a comment, an empty line and a bad one have
-- none
abbrev pub answered_at : ℕ → List ℕ → Status → Bool → List Answered
answered_at n line status refused =
    if is_silent line then [] else if_good status (record { line = n; refused = refused } ∷ []) []

abbrev pub answered_in : {L : Type 0} → Meaning L → Configuration L → ℕ → List ℕ → List Answered
answered_in m c n line =
    let a = line_answer m c n line in answered_at n line a.status (is_refused a.text)

-- the commands of lines, of which the first has the number n, up to the line that ends the run
unfoldable pub answered : {L : Type 0} → Meaning L → Marks → Configuration L → ℕ → List (List ℕ) → List Answered
answered m marks c n [] = []
answered m marks c n (line ∷ lines) =
    answered_in m c n line
    ++ if_good (marked_answer m marks c n line).status
    (answered m marks (line_answer m c n line).config (n + 1) lines) []

-- no command was answered
abbrev pub no_answers : Tally
no_answers = record { commands = 0; refused = 0; first_refused = None }

-- a tally, and these commands after it: how many there are, how many of them were refused, and the line of the first of
-- these
abbrev pub counted : Tally → List Answered → Tally
counted t given = record {
  commands = t.commands + length given;
  refused = t.refused + length (filter (λ a. a.refused) given);
  first_refused = option_or t.first_refused (option_map (λ a. a.line) (find (λ a. a.refused) given));
}

-- of the commands of a script
abbrev pub script_tally : {L : Type 0} → Meaning L → Marks → Configuration L → List ℕ → Tally
script_tally m marks c script =
    if nat_lt 1048576 (length script) then no_answers
    else counted no_answers (answered m marks c 1 (lines_of script))
