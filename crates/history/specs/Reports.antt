-- The completions that the entries of a history tell.
use Rattle.std.specs.Prelude.{ℕ, ◌+◌, ◌==◌, if◌then◌else◌, List, [], ◌∷◌, ◌++◌, length, Option, Some, None, Ok, Err}
use Rattle.std.specs.Option.{option_map_or}
use Rattle.app_interface.specs.Application.{App}
use Rattle.reset_model.specs.declared.event.Event.TheVariants.{Open}
use Rattle.reset_model.specs.declared.step.Reply.{Reply}
use Rattle.reset_model.specs.declared.step.Reply.TheVariants.{Applied, Complete}
use Rattle.reset_model.specs.Configuration.{Configuration}
use Rattle.reset_model.specs.Planned.{Outcome, outcome_of}
use Rattle.reset_model.specs.Steps.{event_node}
use Rattle.history.specs.declared.entry.Entry.{Entry}
use Rattle.history.specs.declared.entry.Entry.TheVariants.{Step, Disturbed}
use Rattle.history.specs.declared.entry.Report.{Report}
use Rattle.history.specs.Entries.{entered}

-- the position of the latest opening at node i since the last fault, of entries that came before, the
-- latest first
abbrev pub latest_opening : ℕ → List Entry → Option ℕ
latest_opening i [] = None
latest_opening i (Step (Open k) ∷ before) = if k == i then Some (length before + 1) else latest_opening i before
latest_opening i (Step _ ∷ before) = latest_opening i before
latest_opening i (Disturbed f ∷ before) = None

-- the report of a reply, if it tells a completion
abbrev pub reported : Reply → Option ℕ → ℕ → List Report
reported Applied opened finished = []
reported (Complete session) opened finished = record { number = session; opened = opened; finished = finished } ∷ []

abbrev pub outcome_reported : {L : Type 0} → Outcome L → Option ℕ → ℕ → List Report
outcome_reported (Ok left) opened finished = reported left.1 opened finished
outcome_reported (Err f) opened finished = []

-- the report of an entry, where entries came before, the latest first: a step may have one, a fault has none
abbrev pub report_of : {L : Type 0} → App L → Configuration L → List Entry → Entry → List Report
report_of app c before (Step e) =
    outcome_reported (outcome_of app c e) (latest_opening (event_node e) before) (length before + 1)
report_of app c before (Disturbed f) = []

-- the reports of entries, from c on, where entries came before, the latest first
unfoldable pub reports_from : {L : Type 0} → App L → (List ℕ → Option L) → Configuration L → List Entry
    → List Entry → List Report
reports_from app from_text c before [] = []
reports_from app from_text c before (e ∷ es) =
    report_of app c before e
    ++ option_map_or (λ after. reports_from app from_text after (e ∷ before) es) (entered app from_text c e) []

-- the reports of the entries of a history
abbrev pub reports_of : {L : Type 0} → App L → (List ℕ → Option L) → Configuration L → List Entry → List Report
reports_of app from_text c es = reports_from app from_text c [] es
