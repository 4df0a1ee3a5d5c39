-- Lists of events, each with what came of it, and what the events leave.
use Rattle.std.specs.Prelude.{◌≡◌, ◌≢◌, List, [], ◌∷◌}
use Rattle.app_interface.specs.Application.{App}
use Rattle.reset_model.specs.declared.event.Event.{Event}
use Rattle.reset_model.specs.declared.step.Done.{Done}
use Rattle.reset_model.specs.declared.step.Done.TheVariants.{Did, Refused}
use Rattle.reset_model.specs.declared.step.StepRefusal.TheVariants.{NoMemory}
use Rattle.reset_model.specs.Configuration.{Configuration, tree_of, wave_of}
use Rattle.reset_model.specs.MachineSteps.{IsRefused, IsStep}
use Rattle.reset_model.specs.Steps.{reply_of}

-- this came of the event, and c became c': a step with its reply, or the first refusal, after which nothing has changed.
-- A refusal for lack of memory may come in place of anything else
abbrev pub IsDone : {L : Type 0} → App L → Configuration L → Event → Done → Configuration L → Type 0
IsDone app c e (Did reply) c' = IsStep app c e c' × (reply ≡ reply_of (tree_of c) (wave_of c) e)
IsDone app c e (Refused f) c' = (f ≢ NoMemory → IsRefused app c e f) × (c' ≡ c)

-- this came of the events, in turn, and c became c'
abbrev pub IsRun : {L : Type 0} → App L → Configuration L → List Event → List Done → Configuration L → Type 0
IsRun app c [] [] c' = c' ≡ c
IsRun app c [] (d ∷ ds) c' = ⊥
IsRun app c (e ∷ es) [] c' = ⊥
IsRun {L} app c (e ∷ es) (d ∷ ds) c' = (m : Configuration L) × IsDone app c e d m × IsRun app m es ds c'
