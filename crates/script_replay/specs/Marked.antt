-- A replay that marks its answers: by the number of their line, and by ending at the first refusal.
use Rattle.std.specs.Prelude.{ℕ, ◌&&◌, ◌==◌, nat_lt, Bool, if◌then◌else◌, List, [], ◌++◌, codes, length}
use Rattle.std.specs.Fmt.{decimal}
use Rattle.std.specs.List.{list_any, starts_with}
use Rattle.reset_model.specs.Configuration.{Configuration}
use Rattle.applications.specs.Meaning.{Meaning}
use Rattle.script_replay.specs.Lines.{lines_of}
use Rattle.script_replay.specs.Output.{Answer, answers_by, line_answer, too_long_text}
use Rattle.script_replay.specs.declared.marked.Marks.{Marks}
use Rattle.script_replay.specs.declared.status.Status.{Status}
use Rattle.script_replay.specs.declared.status.Status.TheVariants.{BadInput, NotEnabled}

-- the line is a refusal
abbrev pub is_refusal : List ℕ → Bool
is_refusal line = starts_with ◌==◌ line (codes "refused ")

-- some line of the text is one
abbrev pub is_refused : List ℕ → Bool
is_refused text = list_any is_refusal (lines_of text)

-- the number of a line before its answer, where that is asked and there is an answer
abbrev pub number_text : Marks → ℕ → List ℕ → List ℕ
number_text marks n text = if marks.number && nat_lt 0 (length text) then decimal n ++ codes ": " else []

-- an answer with its number; a refusal ends a strict run
abbrev pub marked : {L : Type 0} → Marks → ℕ → Answer L → Answer L
marked marks n a = record {
  config = a.config;
  text = number_text marks n a.text ++ a.text;
  status = if marks.strict && is_refused a.text then NotEnabled else a.status;
}

-- the marked answer to the text of the n-th line
abbrev pub marked_answer : {L : Type 0} → Meaning L → Marks → Configuration L → ℕ → List ℕ → Answer L
marked_answer m marks c n line = marked marks n (line_answer m c n line)

-- the marked answers to a script: the first that isn't good is the last
abbrev pub marked_answers : {L : Type 0} → Meaning L → Marks → Configuration L → List ℕ → Answer L
marked_answers m marks c script = answers_by (marked_answer m marks) c 1 (lines_of script)

-- what is written of them, and the status
abbrev pub marked_output : {L : Type 0} → Meaning L → Marks → Configuration L → List ℕ → List ℕ × Status
marked_output m marks c script =
    if nat_lt 1048576 (length script) then (too_long_text, BadInput) else
    ((marked_answers m marks c script).text, (marked_answers m marks c script).status)
