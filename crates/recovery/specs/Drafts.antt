-- What contracts see of a draft of a plan.
use Rattle.std.specs.Prelude.{◌≡◌, ◌⊎◌, ℕ, Bool, true, false, List, [], ◌∷◌, ◌++◌}
use Rattle.app_interface.specs.Application.{App}
use Rattle.topology.specs.Graph.{node_bound}
use Rattle.reset_model.specs.declared.event.Event.{Event}
use Rattle.reset_model.specs.declared.event.Event.TheVariants.{Adopt, Claim, Follow, Mend, Open, Request}
use Rattle.reset_model.specs.declared.step.StepRefusal.{StepRefusal}
use Rattle.reset_model.specs.declared.step.StepRefusal.TheVariants.{NoMemory}
use Rattle.reset_model.specs.Configuration.{Configuration, tree_of, wave_of}
use Rattle.reset_model.specs.MachineSteps.{IsStep}
use Rattle.reset_model.specs.Steps.{IsEnabled}

-- the events are steps, taken in turn, and c becomes c'
abbrev pub Leads : {L : Type 0} → App L → Configuration L → List Event → Configuration L → Type 0
Leads app c [] c' = c' ≡ c
Leads {L} app c (e ∷ es) c' = (m : Configuration L) × IsStep app c e m × Leads app m es c'

-- the configuration at which a draft began, the steps since, and the one to which they led
pub record DraftView (L : Type 0) : Type 0 where
  pub opening : Configuration L
  pub events : List Event
  pub config : Configuration L

abbrev pub draft_view : {L : Type 0} → Configuration L → List Event → Configuration L → DraftView L
draft_view opening events config = record { opening = opening; events = events; config = config }

-- the event of the tables was a step, which the draft has at its end, or it isn't enabled and nothing has changed
abbrev pub Tried : {L : Type 0} → App L → DraftView L → Event → DraftView L → Type 0
Tried app d e d' =
    let c = d.config in
    (IsStep app c e d'.config × (d'.events ≡ d.events ++ e ∷ []))
    ⊎ ((IsEnabled c.graph (node_bound c.graph) c.modulus (tree_of c) (wave_of c) e → ⊥) × (d' ≡ d))

-- a request and then an opening were tried at the node i
abbrev pub TriedToOpen : {L : Type 0} → App L → DraftView L → ℕ → DraftView L → Type 0
TriedToOpen {L} app d i d' = (m : DraftView L) × Tried app d (Request i) m × Tried app m (Open i) d'

-- the events that repair registers
abbrev pub is_repair : Event → Bool
is_repair (Claim i) = true
is_repair (Follow i) = true
is_repair (Adopt i j) = true
is_repair (Mend i) = true
is_repair _ = false

-- allocation failed
abbrev pub is_memory : StepRefusal → Bool
is_memory NoMemory = true
is_memory _ = false
