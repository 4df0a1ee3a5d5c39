-- The outcome of an event is a step of the configuration with its reply, or the first refusal.
use Rattle.std.proofs.Common.{◌≡◌, ℕ, Bool, true, false, cond, Contains, Option}
use Rattle.std.proofs.Common.{Result, Ok, Err, MatchResult, refl, sym, ap, subst, ◌∙◌}
use Rattle.app_interface.specs.Application.{App}
use Rattle.topology.specs.Graph.{Graph, IsGraph, IsNode, Changes, node_bound}
use Rattle.wave_layer.specs.declared.regs.WaveMove.{WaveMove}
use Rattle.wave_layer.specs.declared.regs.Phase.TheVariants.{Normal}
use Rattle.reset_model.specs.declared.event.Event.{Event}
use Rattle.reset_model.specs.declared.event.Event.TheVariants.{Claim, Follow, Adopt, Request, Relay, Open, Join, Finish}
use Rattle.reset_model.specs.declared.event.Event.TheVariants.{Mend, Act}
use Rattle.reset_model.specs.declared.plan.Fired.{Fired}
use Rattle.reset_model.specs.declared.plan.Fired.TheVariants.{Tree, Wave}
use Rattle.reset_model.specs.declared.step.Reply.{Reply}
use Rattle.reset_model.specs.declared.step.StepRefusal.{StepRefusal}
use Rattle.reset_model.specs.Configuration.{Configuration, IsShaped, tree_of, wave_of, local_of}
use Rattle.reset_model.specs.Configuration.{local_map}
use Rattle.reset_model.specs.Steps.{event_node, is_act, reply_of}
use Rattle.reset_model.specs.MachineSteps.{IsStep, IsRefused, RowStep, row_step, row_refused, act_step, act_refused}
use Rattle.reset_model.specs.MachineSteps.{local_effect}
use Rattle.reset_model.specs.Outcome.{map_outcome, row_outcome, act_outcome, acted, done, after_fired, fired_reply}
use Rattle.reset_model.specs.Outcome.{restarted}
use Rattle.reset_model.specs.Actions.{acted_of}
use Rattle.reset_model.specs.Planned.{outcome_of}
use Rattle.reset_model.specs.LocalSteps.{event_fired}
use Rattle.reset_model.proofs.Positions.{value_at-put_at, value_at-put_at_other}
use Rattle.reset_model.proofs.PlannedSteps.{IsPlannedStep, planned_steps}
use Rattle.reset_model.proofs.WavePlans.{restarts_of}
use Rattle.reset_model.proofs.ViewedOutcomes.{outcome-is}
use Rattle.reset_model.proofs.ActionSteps.{acted_steps, IsActed}

-- ---- the events of the two tables

local_effect-restarts : {L : Type 0} (app : App L) (g : Graph) (l : ℕ → L) (e : Event)
    → local_effect app g l e ≡ cond (restarts_of e) (app.start g (event_node e)) (l (event_node e))
local_effect-restarts app g l (Claim i) = refl
local_effect-restarts app g l (Follow i) = refl
local_effect-restarts app g l (Adopt i j) = refl
local_effect-restarts app g l (Request i) = refl
local_effect-restarts app g l (Relay i c) = refl
local_effect-restarts app g l (Open i) = refl
local_effect-restarts app g l (Join i) = refl
local_effect-restarts app g l (Finish i) = refl
local_effect-restarts app g l (Mend i) = refl
local_effect-restarts app g l (Act i case with) = refl

-- a node that restarts has its start state, and any other its own
restarts_one : {L : Type 0} (app : App L) (c : Configuration L) (i : ℕ) (b : Bool) → IsShaped c
    → Contains c.graph.ids i
    → Changes c.graph (local_of app c) i (cond b (app.start c.graph i) (local_of app c i))
    (local_map app c.graph (restarted app c i b))
restarts_one app c i true shaped node = record {
  here = value_at-put_at (app.start c.graph i) c.graph.ids c.locals i (app.start c.graph i) shaped.locals node;
  others =
      λ k _ other. value_at-put_at_other (app.start c.graph k) c.graph.ids c.locals i k (app.start c.graph i) other;
}
restarts_one app c i false shaped node = record { here = refl; others = λ k _ other. refl }

module _ {L : Type 0} (app : App L) (c : Configuration L) (graph : IsGraph c.graph) (shaped : IsShaped c) where
  locals_step : (e : Event) (b : Bool) → IsNode c.graph (event_node e) → b ≡ restarts_of e
      → Changes c.graph (local_of app c) (event_node e) (local_effect app c.graph (local_of app c) e)
      (local_map app c.graph (restarted app c (event_node e) b))
  locals_step e b node is =
      let Steps : L → Type 0 =
      λ x. Changes c.graph (local_of app c) (event_node e) x
      (local_map app c.graph (restarted app c (event_node e) b)) in
      subst Steps
      (ap (λ d. cond d (app.start c.graph (event_node e)) (local_of app c (event_node e))) is
      ∙ sym (local_effect-restarts app c.graph (local_of app c) e))
      (restarts_one app c (event_node e) b shaped (graph.within (event_node e) node))

  -- what is planned in a configuration is a step
  fired_is_step : (e : Event) (does : Fired)
      → IsPlannedStep c.graph (node_bound c.graph) c.modulus (tree_of c) (wave_of c) graph e does
      → RowStep app c e (after_fired app c (event_node e) does)
  fired_is_step e (Tree regs) step =
      record {
        graph = refl;
        modulus = refl;
        regs = record {
          node = step.node;
          enabled = step.enabled;
          trees = record {
            here = value_at-put_at (record { root = 0; father = 0; dist = 0 }) c.graph.ids c.trees (event_node e) regs
                shaped.trees (graph.within (event_node e) step.node) ∙ step.leaves.tree;
            others =
                λ k node other. value_at-put_at_other (record { root = 0; father = 0; dist = 0 }) c.graph.ids c.trees
                (event_node e) k regs other;
          };
          waves = record { here = step.leaves.wave; others = λ k node other. refl };
        };
        locals = locals_step e false step.node step.leaves.restarts;
      }
  fired_is_step e (Wave move) step =
      record {
        graph = refl;
        modulus = refl;
        regs = record {
          node = step.node;
          enabled = step.enabled;
          trees = record { here = step.leaves.tree; others = λ k node other. refl };
          waves = record {
            here = value_at-put_at (record { phase = Normal; session = 0 }) c.graph.ids c.waves (event_node e) move.regs
                shaped.waves (graph.within (event_node e) step.node) ∙ step.leaves.wave;
            others =
                λ k node other. value_at-put_at_other (record { phase = Normal; session = 0 }) c.graph.ids c.waves
                (event_node e) k move.regs other;
          };
        };
        locals = locals_step e move.restarts step.node step.leaves.restarts;
      }

  -- an outcome is a step with its reply, or the first refusal
  abbrev IsJudged : Event → Result (Configuration L × Reply) StepRefusal → Type 0
  IsJudged e r =
      MatchResult r (λ after. IsStep app c e after.0 × (after.1 ≡ reply_of (tree_of c) (wave_of c) e))
      (IsRefused app c e)

  done_steps : (e : Event) (r : Result Fired StepRefusal) → is_act e ≡ false
      → event_fired c.graph (node_bound c.graph) c.modulus (tree_of c) (wave_of c) e ≡ r
      → IsJudged e (done app c (event_node e) r)
  done_steps e (Err f) row planned =
      row_refused row (planned_steps c.graph (node_bound c.graph) c.modulus (tree_of c) (wave_of c) graph e (Err f) planned)
  done_steps e (Ok does) row planned =
      let step : IsPlannedStep c.graph (node_bound c.graph) c.modulus (tree_of c) (wave_of c) graph e does =
      planned_steps c.graph (node_bound c.graph) c.modulus (tree_of c) (wave_of c) graph e (Ok does) planned in
      (row_step (fired_is_step e does step), step.leaves.reply)

  row_steps : (e : Event) → is_act e ≡ false → IsJudged e (row_outcome app c e)
  row_steps e row = done_steps e (event_fired c.graph (node_bound c.graph) c.modulus (tree_of c) (wave_of c) e) row refl

  -- ---- the actions

  acted_is_step : (i case : ℕ) (with : Option ℕ) (r : Result L StepRefusal)
      → IsActed app c.graph (node_bound c.graph) (wave_of c) (local_of app c) i case with r
      → IsJudged (Act i case with) (acted c i r)
  acted_is_step i case with (Err f) is = act_refused i case with refl is
  acted_is_step i case with (Ok new) is = (
    act_step i case with refl (record {
      graph = refl;
      modulus = refl;
      trees = refl;
      waves = refl;
      locals = record {
        agree = is.agree;
        action = record {
          node = is.node;
          fits = is.fits;
          new = new;
          next = is.next;
          changes = record {
            here = value_at-put_at (app.start c.graph i) c.graph.ids c.locals i new shaped.locals
                (graph.within i is.node);
            others = λ k _ other. value_at-put_at_other (app.start c.graph k) c.graph.ids c.locals i k new other;
          };
        };
      };
    }),
    refl,
  )

  act_steps : (i case : ℕ) (with : Option ℕ) → IsJudged (Act i case with) (act_outcome app c i case with)
  act_steps i case with =
      acted_is_step i case with _
      (acted_steps app c.graph graph (node_bound c.graph) (wave_of c) (local_of app c) i case with)

  map_steps : (e : Event) → IsJudged e (map_outcome app c e)
  map_steps (Claim i) = row_steps (Claim i) refl
  map_steps (Follow i) = row_steps (Follow i) refl
  map_steps (Adopt i j) = row_steps (Adopt i j) refl
  map_steps (Request i) = row_steps (Request i) refl
  map_steps (Relay i k) = row_steps (Relay i k) refl
  map_steps (Open i) = row_steps (Open i) refl
  map_steps (Join i) = row_steps (Join i) refl
  map_steps (Finish i) = row_steps (Finish i) refl
  map_steps (Mend i) = row_steps (Mend i) refl
  map_steps (Act i case with) = act_steps i case with

  pub outcome_steps : (e : Event) → IsJudged e (outcome_of app c e)
  outcome_steps e = subst (IsJudged e) (sym (outcome-is app c graph e)) (map_steps e)

  pub outcome_is_step : (e : Event) (c' : Configuration L) (reply : Reply) → outcome_of app c e ≡ Ok (c', reply)
      → IsStep app c e c' × (reply ≡ reply_of (tree_of c) (wave_of c) e)
  outcome_is_step e c' reply is = subst (IsJudged e) is (outcome_steps e)

  pub outcome_is_refused : (e : Event) (f : StepRefusal) → outcome_of app c e ≡ Err f → IsRefused app c e f
  outcome_is_refused e f is = subst (IsJudged e) is (outcome_steps e)

-- an event that is no action is one of the two tables
map-rows : {L : Type 0} (app : App L) (c : Configuration L) (e : Event) → is_act e ≡ false
    → map_outcome app c e ≡ row_outcome app c e
map-rows app c (Claim i) row = refl
map-rows app c (Follow i) row = refl
map-rows app c (Adopt i j) row = refl
map-rows app c (Request i) row = refl
map-rows app c (Relay i k) row = refl
map-rows app c (Open i) row = refl
map-rows app c (Join i) row = refl
map-rows app c (Finish i) row = refl
map-rows app c (Mend i) row = refl
map-rows app c (Act i case with) row = absurd (cc)

pub outcome-rows : {L : Type 0} (app : App L) (c : Configuration L) (e : Event) → IsGraph c.graph → is_act e ≡ false
    → outcome_of app c e ≡ row_outcome app c e
outcome-rows app c e graph row = outcome-is app c graph e ∙ map-rows app c e row

-- ---- what is written at the event's node is the outcome

pub put_wave_outcome : {L : Type 0} (app : App L) (c c' : Configuration L) (e : Event) (move : WaveMove) (reply : Reply)
    → event_fired c.graph (node_bound c.graph) c.modulus (tree_of c) (wave_of c) e ≡ Ok (Wave move)
    → reply ≡ fired_reply (Wave move) → c' ≡ after_fired app c (event_node e) (Wave move)
    → row_outcome app c e ≡ Ok (c', reply)
put_wave_outcome {L} app c c' e move reply planned replied written =
    let after : Configuration L → Reply → Result (Configuration L × Reply) StepRefusal = λ d r. Ok (d, r) in
    ap (done app c (event_node e)) planned
    ∙ ap (λ r. after (after_fired app c (event_node e) (Wave move)) r) (sym replied)
    ∙ ap (λ d. after d reply) (sym written)

pub refused_outcome : {L : Type 0} (app : App L) (c : Configuration L) (e : Event) (f : StepRefusal)
    → event_fired c.graph (node_bound c.graph) c.modulus (tree_of c) (wave_of c) e ≡ Err f → row_outcome app c e ≡ Err f
refused_outcome app c e f planned = ap (done app c (event_node e)) planned

pub refused_act : {L : Type 0} (app : App L) (c : Configuration L) (i case : ℕ) (with : Option ℕ) (f : StepRefusal)
    → acted_of app c.graph (node_bound c.graph) (wave_of c) (local_of app c) i case with ≡ Err f
    → act_outcome app c i case with ≡ Err f
refused_act app c i case with f is = ap (acted c i) is
