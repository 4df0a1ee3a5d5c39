-- What an exploration of all orders of the events is written as.
use Rattle.std.specs.Prelude.{◌≡◌, ◌==◌, ◌<◌, ◌≤◌, ℕ, Bool, if◌then◌else◌, List, [], ◌∷◌, ◌++◌, length, codes, Some, None}
use Rattle.std.specs.Fmt.{decimal}
use Rattle.std.specs.List.{concat}
use Rattle.reset_model.specs.Configuration.{Configuration}
use Rattle.applications.specs.Meaning.{Meaning}
use Rattle.history.specs.HistoryText.{ended}
use Rattle.schedules.specs.Explored.{HasMoreThan, IsExplored}
use Rattle.schedules.specs.Search.{AreFew, IsSearch}
use Rattle.schedules.specs.declared.schedules.Runs.{Runs}
use Rattle.schedules.specs.declared.schedules.Runs.TheVariants.{Ending, Endless}
use Rattle.schedules.specs.declared.schedules.Schedules.{Schedules}
use Rattle.schedules.specs.declared.finding.Search.{Search}
use Rattle.schedules.specs.declared.finding.Target.{Target}
use Rattle.script_replay.specs.Left.{bad_line_of, left_by}
use Rattle.script_replay.specs.Output.{bad_line_text, too_long_text}
use Rattle.script_replay.specs.declared.status.Status.{Status}
use Rattle.script_replay.specs.declared.status.Status.TheVariants.{Good, FaultsFound, BadInput}
use Rattle.reset_service.specs.Searched.{search_status, search_text}
use Rattle.reset_service.specs.Started.{FollowUp}
use Rattle.reset_service.specs.declared.explored.Exploring.{Exploring}

-- ---- the text

-- a text that begins a line after another one
abbrev pub on_next_line : List ℕ → List ℕ
on_next_line text = 10 ∷ text

-- how far the orders go
abbrev pub runs_text : Runs → List ℕ
runs_text (Ending longest count) =
    concat (on_next_line (codes "longest ") ∷ decimal longest ∷ on_next_line (codes "completions ") ∷ decimal count.least
    ∷ codes " to " ∷ decimal count.most ∷ ended [] ∷ [])
runs_text Endless = on_next_line (ended (codes "endless"))

abbrev pub counts_text : Schedules → List ℕ
counts_text found =
    concat (codes "configurations " ∷ decimal found.configurations ∷ on_next_line (codes "steps ") ∷ decimal found.steps
    ∷ on_next_line (codes "ends ") ∷ decimal found.ends ∷ on_next_line (codes "whole ") ∷ decimal found.whole ∷ [])

abbrev pub schedules_text : Schedules → List ℕ
schedules_text found = counts_text found ++ runs_text found.runs

-- good where every order ends, and each end is whole
abbrev pub status_by : Bool → Runs → Status
status_by whole (Ending longest count) = if whole then Good else FaultsFound
status_by whole Endless = FaultsFound

abbrev pub status_of : Schedules → Status
status_of found = status_by (found.whole == found.ends) found.runs

abbrev pub too_many_text : ℕ → List ℕ
too_many_text most = concat (codes "more than " ∷ decimal most ∷ ended (codes " configurations") ∷ [])

-- ---- what is written

-- what an exploration finds from this configuration: what the orders come to, or what is looked for
pub data IsFound {L : Type 0} (m : Meaning L) (run : Exploring) (c : Configuration L) (output : List ℕ × Status) : Type 0 where
  too_many : HasMoreThan m.app run.acts c run.most → output ≡ (too_many_text run.most, BadInput) → IsFound m run c output
  explored : (found : Schedules) → run.until ≡ None → IsExplored m.app run.acts c found → found.configurations ≤ run.most
      → output ≡ (schedules_text found, status_of found) → IsFound m run c output
  searched : (target : Target) (found : Search) → run.until ≡ Some target → IsSearch m.counts m.app run.acts target c found
      → AreFew run.most found → output ≡ (search_text found, search_status found) → IsFound m run c output

-- what is written for a script on a configuration, and the status: what an exploration finds from the configuration that
-- its lines leave, where all of them are good
pub data IsExploration {L : Type 0} (m : Meaning L) (run : Exploring) (c : Configuration L) (script : List ℕ)
    (output : List ℕ × Status) : Type 0 where
  too_long : 1048576 < length script → output ≡ (too_long_text, BadInput) → IsExploration m run c script output
  bad_line : (n : ℕ) → length script ≤ 1048576 → bad_line_of m.names script ≡ Some n
      → output ≡ (bad_line_text n, BadInput) → IsExploration m run c script output
  explored : length script ≤ 1048576 → bad_line_of m.names script ≡ None → IsFound m run (left_by m c script) output
      → IsExploration m run c script output

abbrev pub Explores : Exploring → List ℕ → FollowUp
Explores run script L m c output = IsExploration m run c script output
