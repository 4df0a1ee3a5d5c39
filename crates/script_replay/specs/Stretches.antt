-- The run that the lines of a script make happen between two faults.
use Rattle.std.specs.Prelude.{ℕ, ◌+◌, if◌then◌else◌, List, [], ◌∷◌, ◌++◌, All, Option, Some, None, Result, Ok, Err}
use Rattle.topology.specs.Graph.{Graph, is_node}
use Rattle.app_interface.specs.Application.{App}
use Rattle.applications.specs.Meaning.{Meaning}
use Rattle.link_predicates.specs.Faults.{alarm_of}
use Rattle.link_predicates.specs.declared.fault.LinkFault.{LinkFault}
use Rattle.reset_model.specs.Completion.{applied}
use Rattle.reset_model.specs.Configuration.{Configuration}
use Rattle.reset_model.specs.BySteps.{IsBySteps}
use Rattle.reset_model.specs.Planned.{outcome_of}
use Rattle.reset_model.specs.Runs.{IsRun}
use Rattle.reset_model.specs.declared.event.Event.{Event}
use Rattle.reset_model.specs.declared.event.Event.TheVariants.{Request}
use Rattle.reset_model.specs.declared.step.Done.{Done}
use Rattle.reset_model.specs.declared.step.Done.TheVariants.{Did, Refused}
use Rattle.reset_model.specs.declared.step.Reply.{Reply}
use Rattle.reset_model.specs.declared.step.StepRefusal.{StepRefusal}
use Rattle.script_replay.specs.Output.{line_answer, answers, if_good, stepped}
use Rattle.script_replay.specs.Script.{line_of}
use Rattle.script_replay.specs.declared.script.Command.TheVariants.{Step, Inject, Draw, Watch}
use Rattle.script_replay.specs.declared.script.Line.{Line}
use Rattle.script_replay.specs.declared.script.Line.TheVariants.{Asks}

-- the line asks for no fault
abbrev pub IsUndisturbed : Line → Type 0
IsUndisturbed (Asks (Inject f)) = ⊥
IsUndisturbed (Asks (Draw seed)) = ⊥
IsUndisturbed line = Unit {0}

-- none of the lines asks for a fault
abbrev pub AreUndisturbed : (ℕ → Option (List ℕ)) → List (List ℕ) → Type 0
AreUndisturbed names lines = All (λ line. IsUndisturbed (line_of names line)) lines

-- ---- events

-- after an alarm, a node that watches asks for a reset
abbrev pub after_alarm_events : ℕ → Option LinkFault → List Event
after_alarm_events i None = []
after_alarm_events i (Some fault) = Request i ∷ []

-- the request of a node that watches, where it has an alarm. It stays folded: unfolded, it has all the tables
unfoldable pub watch_events : {L : Type 0} → Meaning L → Configuration L → ℕ → List Event
watch_events m c i = if is_node c.graph i then after_alarm_events i (alarm_of m.app c i) else []

-- the event that a line makes happen, where it makes one: its own, or the request of a node that watches
abbrev pub line_events : {L : Type 0} → Meaning L → Configuration L → Line → List Event
line_events m c (Asks (Step e)) = e ∷ []
line_events m c (Asks (Watch i)) = watch_events m c i
line_events m c line = []

-- the events that lines make happen, in their order, up to the first bad line. The first line has the number n
unfoldable pub events_of_lines : {L : Type 0} → Meaning L → Configuration L → ℕ → List (List ℕ) → List Event
events_of_lines m c n [] = []
events_of_lines m c n (line ∷ lines) =
    let a = line_answer m c n line in
    line_events m c (line_of m.names line) ++ if_good a.status (events_of_lines m a.config (n + 1) lines) []

-- ---- runs

-- the answer to an event with this outcome
abbrev pub event_answer : {L : Type 0} → Result (Configuration L × Reply) StepRefusal → Done
event_answer (Ok r) = Did r.1
event_answer (Err refusal) = Refused refusal

-- the answers to events that are tried in turn
abbrev pub event_answers : {L : Type 0} → App L → Configuration L → List Event → List Done
event_answers app c [] = []
event_answers app c (e ∷ es) =
    event_answer (outcome_of app c e) ∷ event_answers app (stepped c (outcome_of app c e)).0 es

-- from c to what the lines leave, their events are a run, each answered by its outcome
abbrev pub MakeRun : {L : Type 0} → Meaning L → Configuration L → ℕ → List (List ℕ) → Type 0
MakeRun m c n lines =
    let es = events_of_lines m c n lines in IsRun m.app c es (event_answers m.app c es) (answers m c n lines).config

-- from c to what the lines leave, those of their events that are applied are steps, of which the headline holds
abbrev pub MakeSteps : {L : Type 0} → Meaning L → (Graph → (ℕ → L) → Type 0) → Configuration L → ℕ → List (List ℕ)
    → Type 0
MakeSteps m Inv c n lines =
    let es = events_of_lines m c n lines in
    IsBySteps m.app Inv c (applied es (event_answers m.app c es)) (answers m c n lines).config
