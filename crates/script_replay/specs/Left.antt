-- What a script leaves that is run for its end alone: its answers are told nowhere.
use Rattle.std.specs.Prelude.{ℕ, ◌+◌, List, [], ◌∷◌, Option, Some, None}
use Rattle.reset_model.specs.Configuration.{Configuration}
use Rattle.applications.specs.Meaning.{Meaning}
use Rattle.script_replay.specs.Lines.{lines_of}
use Rattle.script_replay.specs.Output.{answers}
use Rattle.script_replay.specs.Script.{line_of}
use Rattle.script_replay.specs.declared.script.Line.{Line}
use Rattle.script_replay.specs.declared.script.Line.TheVariants.{Silent, Asks, Bad}

-- what follows a line that isn't bad, and what follows one that is
abbrev pub unless_bad : {A : Type 0} → Line → A → A → A
unless_bad Silent next last = next
unless_bad (Asks command) next last = next
unless_bad Bad next last = last

-- the number of the first bad line, where the first line has the number n
unfoldable pub first_bad : (ℕ → Option (List ℕ)) → ℕ → List (List ℕ) → Option ℕ
first_bad names n [] = None
first_bad names n (line ∷ lines) = unless_bad (line_of names line) (first_bad names (n + 1) lines) (Some n)

-- the number of the first bad line of a script, counted from 1
abbrev pub bad_line_of : (ℕ → Option (List ℕ)) → List ℕ → Option ℕ
bad_line_of names script = first_bad names 1 (lines_of script)

-- the configuration that a script leaves
abbrev pub left_by : {L : Type 0} → Meaning L → Configuration L → List ℕ → Configuration L
left_by m c script = (answers m c 1 (lines_of script)).config
