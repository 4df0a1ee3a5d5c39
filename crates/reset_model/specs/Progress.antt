-- The waves end: how many steps they take, and that one can be taken until the component rests.
use Rattle.std.specs.Prelude.{◌≡◌, ℕ, ◌+◌, ◌*◌, ◌≤◌, Bool, true, false, ◌&&◌, ◌⊎◌, List, Contains, length}
use Rattle.app_interface.specs.Application.{App}
use Rattle.topology.specs.Components.{component, leader, reaches}
use Rattle.topology.specs.Graph.{Graph, IsReached}
use Rattle.wave_layer.specs.declared.regs.Phase.TheVariants.{Normal}
use Rattle.reset_model.specs.declared.event.Event.{Event}
use Rattle.reset_model.specs.declared.event.Event.TheVariants.{Request}
use Rattle.reset_model.specs.Completion.{times}
use Rattle.reset_model.specs.Configuration.{Configuration, wave_of}
use Rattle.reset_model.specs.Headline.{Completes, Transition, events_of}
use Rattle.reset_model.specs.MachineSteps.{IsStep}
use Rattle.reset_model.specs.Steps.{event_node, is_of_a_wave}
use Rattle.reset_model.specs.WavePicture.{HasJoined}

abbrev pub is_request : Event → Bool
is_request (Request i) = true
is_request _ = false

-- how many of the events pass the test and are at nodes of i's component
abbrev pub times_in : Graph → ℕ → (Event → Bool) → List Event → ℕ
times_in g i p es = times (λ e. p e && reaches g i (event_node e)) es

-- how many nodes i's component has
abbrev pub size_of : Graph → ℕ → ℕ
size_of g i = length (component g i).nodes

-- i's component rests: each node there is normal and in its leader's session
abbrev pub IsSettled : {L : Type 0} → Configuration L → ℕ → Type 0
IsSettled c i = (j : ℕ) → IsReached c.graph i j → ((wave_of c j).phase ≡ Normal) × HasJoined c.graph (wave_of c) j

-- a step of the wave can be taken at a node of i's component, with no request
abbrev pub CanGoOn : {L : Type 0} → App L → Configuration L → ℕ → Type 0
CanGoOn {L} app c i = (e : Event) × (c' : Configuration L) × IsReached c.graph i (event_node e)
    × (is_of_a_wave e ≡ true) × (is_request e ≡ false) × IsStep app c e c'

-- where the steps ss lead from c, which is sound, to c'
pub record WavesEnd {L : Type 0} (app : App L) (c : Configuration L) (ss : List (Transition L)) (c' : Configuration L)
    (i : ℕ) : Type 0 where
  -- the waves of i's component, with their requests, take at most 6 steps for each of its nodes, and 3 for each at
  -- each request
  pub bound : times_in c.graph i is_of_a_wave (events_of ss)
      ≤ 6 * size_of c.graph i + 3 * size_of c.graph i * times_in c.graph i is_request (events_of ss)
  -- from rest on, none but those for the requests
  pub rested : IsSettled c i → times_in c.graph i is_of_a_wave (events_of ss)
      ≤ 3 * size_of c.graph i * times_in c.graph i is_request (events_of ss)
  -- and they stop at rest alone
  pub rest : IsSettled c' i ⊎ CanGoOn app c' i
  -- nor without a completion: from unrest to rest its leader finishes
  pub answered : (IsSettled c i → ⊥) → IsSettled c' i → (s : Transition L) × Contains ss s × Completes s (leader c.graph i)
