-- The headline: what holds of any steps that are taken from sound registers on.
use Rattle.std.specs.Prelude.{◌≡◌, ℕ, ◌⊎◌, List, [], ◌∷◌, ◌++◌, map, All, Contains}
use Rattle.app_interface.specs.Application.{App}
use Rattle.topology.specs.Graph.{Graph, IsNode, IsReached, node_bound}
use Rattle.reset_model.specs.declared.event.Event.{Event}
use Rattle.reset_model.specs.declared.event.Event.TheVariants.{Finish, Join, Open}
use Rattle.reset_model.specs.Completion.{JoinsOnce, is_open_at, times}
use Rattle.reset_model.specs.Configuration.{Configuration, local_of, tree_of, wave_of}
use Rattle.reset_model.specs.MachineSteps.{IsStep}
use Rattle.reset_model.specs.Refinement.{AbstractStep, IsAbstractRun, abstract_of, shadow_of}
use Rattle.reset_model.specs.Sound.{IsComplete, IsSound, Repairs}
use Rattle.reset_model.specs.SoundSteps.{HoldsAt}

-- a step that was taken: its event, and the configurations before and after it
pub record Transition (L : Type 0) : Type 0 where
  pub before : Configuration L
  pub event : Event
  pub after : Configuration L

-- the steps were taken in turn, and c became c'
abbrev pub Steps : {L : Type 0} → App L → Configuration L → List (Transition L) → Configuration L → Type 0
Steps app c [] c' = c' ≡ c
Steps app c (s ∷ ss) c' = (s.before ≡ c) × IsStep app c s.event s.after × Steps app s.after ss c'

abbrev pub events_of : {L : Type 0} → List (Transition L) → List Event
events_of ss = map (λ s. s.event) ss

-- what they are on the abstract machine: of each step its shadow
abbrev pub shadow : {L : Type 0} → List (Transition L) → List AbstractStep
shadow [] = []
shadow (s ∷ ss) = shadow_of s.before s.event ++ shadow ss

-- p, which is its own father, finishes: the reset of its component is complete
abbrev pub Completes : {L : Type 0} → Transition L → ℕ → Type 0
Completes s p = (s.event ≡ Finish p) × ((tree_of s.before p).father ≡ p)

-- where Inv is a fact of the local states of a connected graph, that holds at the start and that each action keeps
pub record Headline {L : Type 0} (app : App L) (Inv : Graph → (ℕ → L) → Type 0) (c : Configuration L)
    (ss : List (Transition L)) (c' : Configuration L) : Type 0 where
  -- the sound configurations are closed: no step leads out of them
  pub sound : IsSound c'
  -- and quiet: nothing in them is repaired
  pub quiet : All (λ s. Repairs s.event → ⊥) ss
  -- a distributed reset is as good as one that happens at once: the local states of the newest session of each
  -- component go as on a machine where all its nodes restart together when the session opens, and those that joined act
  pub refines : IsAbstractRun app c.graph (node_bound c.graph) (shadow ss) (abstract_of app c) (abstract_of app c')
  -- none is premature: when a reset is complete, each node of the component is in its session and none is still reset
  pub complete : All (λ s. (p : ℕ) → Completes s p → IsComplete s.after p (wave_of s.after p).session) ss
  -- and from an opening in the component on, which is at the node that completes, each other node of the component joined
  -- exactly once, and nobody there opened another
  pub once : (before between rest : List (Transition L)) (opens completes : Transition L) (o p : ℕ)
      → ss ≡ before ++ opens ∷ (between ++ completes ∷ rest) → opens.event ≡ Open o → IsReached c.graph p o
      → Completes completes p → times (is_open_at p) (events_of between) ≡ 0
      → (o ≡ p) × JoinsOnce c.graph p (events_of between)
  -- a node joins a session in its start state
  pub restarts : All (λ s. (i : ℕ) → s.event ≡ Join i → local_of app s.after i ≡ app.start c.graph i) ss
  -- the application's invariant is kept in each component, and it holds in any case where a session was opened there
  pub keeps : (i : ℕ) → IsNode c.graph i
      → HoldsAt app Inv c i ⊎ ((o : ℕ) × IsReached c.graph i o × Contains (events_of ss) (Open o)) → HoldsAt app Inv c' i
