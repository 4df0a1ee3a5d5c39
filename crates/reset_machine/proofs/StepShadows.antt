-- One step is a run of one event.
use Rattle.std.proofs.Common.{ℕ, [], ◌∷◌, Result, Ok, Err, IfOk, refl}
use Rattle.app_interface.specs.Application.{App}
use Rattle.topology.specs.Graph.{Graph, IsGraph}
use Rattle.reset_model.specs.declared.event.Event.{Event}
use Rattle.reset_model.specs.declared.step.Done.TheVariants.{Did}
use Rattle.reset_model.specs.declared.step.Reply.{Reply}
use Rattle.reset_model.specs.declared.step.StepRefusal.{StepRefusal}
use Rattle.reset_model.specs.Configuration.{Configuration, IsShaped}
use Rattle.reset_model.specs.BySteps.{IsBySteps}
use Rattle.reset_model.specs.Runs.{IsRun}
use Rattle.reset_model.specs.Sound.{IsSound}
use Rattle.reset_model.proofs.RunSteps.{applied_done}
use Rattle.reset_machine.proofs.StepClauses.{IsOutcome}

-- the outcome from a sound configuration, where runs are steps
pub sound_step : {L : Type 0} (app : App L) (Inv : Graph → (ℕ → L) → Type 0) (c c' : Configuration L) (e : Event)
    → ((reply : Reply) → IsSound c → IsRun app c (e ∷ []) (Did reply ∷ []) c' → IsBySteps app Inv c (e ∷ []) c')
    → IsGraph c.graph → IsShaped c → (r : Result Reply StepRefusal) → IsOutcome app c c' e r
    → IfOk r (λ reply. IsSound c → IsBySteps app Inv c (e ∷ []) c')
sound_step app Inv c c' e are graph shaped (Err f) is = tt
sound_step app Inv c c' e are graph shaped (Ok reply) is =
    λ sound. are reply sound (c', applied_done app c c' e reply graph shaped is, refl)

-- what follows of each value that may be answered
pub if_ok : {A E : Type 0} (P Q : A → Type 0) → ((x : A) → P x → Q x) → (r : Result A E) → IfOk r P → IfOk r Q
if_ok P Q to (Ok x) is = to x is
if_ok P Q to (Err e) is = tt
