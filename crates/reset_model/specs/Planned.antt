-- What an event does at its node, by what the node sees alone, and what it makes of a configuration.
use Rattle.std.specs.Prelude.{◌≡◌, ℕ, Bool, true, not, ◌==◌, if◌then◌else◌, List, map, filter, find}
use Rattle.std.specs.Prelude.{Option, Some, None, Result, Ok, Err}
use Rattle.std.specs.List.{list_any}
use Rattle.std.specs.Option.{option_map}
use Rattle.topology.specs.Graph.{is_node}
use Rattle.app_interface.specs.Application.{App}
use Rattle.reset_model.specs.declared.event.Event.{Event}
use Rattle.reset_model.specs.declared.event.Event.TheVariants.{Act}
use Rattle.reset_model.specs.declared.plan.Fired.{Fired}
use Rattle.reset_model.specs.declared.plan.Fired.TheVariants as fired
use Rattle.reset_model.specs.declared.plan.Effect.{Effect}
use Rattle.reset_model.specs.declared.plan.Effect.TheVariants.{Tree, Wave, Local}
use Rattle.reset_model.specs.declared.step.Reply.{Reply}
use Rattle.reset_model.specs.declared.step.Reply.TheVariants.{Applied}
use Rattle.reset_model.specs.declared.step.StepRefusal.{StepRefusal}
use Rattle.reset_model.specs.declared.step.StepRefusal.TheVariants.{StrangeNode, StrangeNeighbour}
use Rattle.reset_model.specs.Actions.{misfit, reads_near, judged}
use Rattle.reset_model.specs.Configuration.{Configuration, with_tree, with_wave, with_local}
use Rattle.reset_model.specs.LocalSteps.{cases_of, first_fired}
use Rattle.reset_model.specs.Outcome.{fired_reply}
use Rattle.reset_model.specs.Steps.{event_node, named_node}
use Rattle.reset_model.specs.View.{Neighbour, NodeView, layer_view, view_of}

-- an effect with its reply, or the first refusal
abbrev pub Planned : Type 0 → Type 0
Planned L = Result (Effect L × Reply) StepRefusal

-- ---- a row of one of the two tables

-- the first of the event's rows whose guard holds
abbrev pub row_fired : {L : Type 0} → NodeView L → Event → Result Fired StepRefusal
row_fired v e = first_fired (layer_view v e) (named_node e) (cases_of e)

-- what it does: a node that restarts has its start state again
abbrev pub row_effect : {L : Type 0} → NodeView L → Fired → Effect L
row_effect v (fired.Tree regs) = Tree regs
row_effect v (fired.Wave move) = Wave move.regs (if move.restarts then Some v.start else None)

abbrev pub row_planned : {L : Type 0} → NodeView L → Result Fired StepRefusal → Planned L
row_planned v (Ok does) = Ok (row_effect v does, fired_reply does)
row_planned v (Err f) = Err f

-- ---- a case of the application

-- the neighbours that the case reads, with this choice
abbrev pub near_read : {L : Type 0} → App L → NodeView L → ℕ → Option ℕ → List (Neighbour L)
near_read app v case with = filter (λ n. reads_near (app.reads case) with n.id) v.near

-- the first of them that is in another session
abbrev pub near_apart : {L : Type 0} → NodeView L → List (Neighbour L) → Option ℕ
near_apart v read = option_map (λ n. n.id) (find (λ n. not (n.wave.session == v.wave.session)) read)

-- the local state that the case leaves
abbrev pub case_taken : {L : Type 0} → App L → NodeView L → ℕ → Option ℕ → Result L StepRefusal
case_taken app v case with =
    let read = near_read app v case with in
    let seen = map (λ n. (n.id, n.local)) read in
    judged (misfit (app.reads case) with) (near_apart v read) (app.next v.id v.bound case with v.local seen)

abbrev pub case_planned : {L : Type 0} → Result L StepRefusal → Planned L
case_planned (Ok new) = Ok (Local new, Applied)
case_planned (Err f) = Err f

-- ---- an event

abbrev pub named_planned : {L : Type 0} → App L → NodeView L → Event → Planned L
named_planned app v (Act i case with) = case_planned (case_taken app v case with)
named_planned app v e = row_planned v (row_fired v e)

-- the other node that the event names, if it names one, is a neighbour
abbrev pub sees : {L : Type 0} → NodeView L → Option ℕ → Bool
sees v None = true
sees v (Some j) = list_any (λ n. n.id == j) v.near

-- what the event does at the node of the view, with its reply, or the first refusal
abbrev pub planned : {L : Type 0} → App L → NodeView L → Event → Planned L
planned app v e =
    if not (v.id == event_node e) then Err StrangeNode
    else (if not (sees v (named_node e)) then Err StrangeNeighbour
    else named_planned app v e)

-- what a node would do: the view that it saw, the event, and what the view says of it
pub record NodePlan (L : Type 0) : Type 0 where
  pub view : NodeView L
  pub event : Event
  pub effect : Effect L
  pub reply : Reply

abbrev pub IsPlan : {L : Type 0} → App L → NodePlan L → Type 0
IsPlan app p = planned app p.view p.event ≡ Ok (p.effect, p.reply)

-- ---- and what it makes of a configuration

-- a configuration with the reply, or the refusal
abbrev pub Outcome : Type 0 → Type 0
Outcome L = Result (Configuration L × Reply) StepRefusal

-- the configuration in which i has done this
abbrev pub after_effect : {L : Type 0} → Configuration L → ℕ → Effect L → Configuration L
after_effect c i (Tree regs) = with_tree c i regs
after_effect c i (Wave regs None) = with_wave c i regs
after_effect c i (Wave regs (Some local)) = with_wave (with_local c i local) i regs
after_effect c i (Local local) = with_local c i local

abbrev pub written : {L : Type 0} → Configuration L → ℕ → Planned L → Outcome L
written c i (Ok does) = Ok (after_effect c i does.0, does.1)
written c i (Err f) = Err f

-- what the view of the event's node says, written there
abbrev pub outcome_of : {L : Type 0} → App L → Configuration L → Event → Outcome L
outcome_of app c e =
    if not (is_node c.graph (event_node e)) then Err StrangeNode
    else written c (event_node e) (planned app (view_of app c (event_node e)) e)
