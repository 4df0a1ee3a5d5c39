-- Plans that recover a configuration, whatever its registers are.
use Rattle.std.specs.Prelude.{◌≡◌, ℕ, ◌+◌, ◌*◌, ◌≤◌, ◌==◌, Bool, true, false, List, [], ◌∷◌, ◌++◌, All, length}
use Rattle.std.specs.List.{list_all}
use Rattle.app_interface.specs.Application.{App}
use Rattle.topology.specs.Components.{leader}
use Rattle.topology.specs.Graph.{IsNode, node_bound}
use Rattle.wave_layer.specs.declared.regs.Phase.TheVariants.{Normal}
use Rattle.reset_model.specs.declared.event.Event.{Event}
use Rattle.reset_model.specs.declared.event.Event.TheVariants.{Finish, Open}
use Rattle.reset_model.specs.Completion.{is_open_at, times}
use Rattle.reset_model.specs.Configuration.{Configuration, local_of, wave_of}
use Rattle.reset_model.specs.Headline.{Steps, Transition, events_of}
use Rattle.reset_model.specs.Sound.{IsSound, Repairs}
use Rattle.reset_model.specs.Steps.{is_of_a_wave}

-- the events are steps that are taken in turn, and c becomes c'
abbrev pub AreSteps : {L : Type 0} → App L → Configuration L → List Event → Configuration L → Type 0
AreSteps {L} app c es c' = (ss : List (Transition L)) × (events_of ss ≡ es) × Steps app c ss c'

-- the events are repairs, few of them, by which c becomes c', which is sound; and there are none where c was
pub record Heals {L : Type 0} (app : App L) (c : Configuration L) (es : List Event) (c' : Configuration L) : Type 0 where
  pub steps : AreSteps app c es c'
  pub only : All Repairs es
  pub few : length es ≤ length c.graph.nodes * (node_bound c.graph + 4)
  pub sound : IsSound c'
  pub none : IsSound c → es ≡ []

abbrev pub is_finish_at : ℕ → Event → Bool
is_finish_at i (Finish k) = k == i
is_finish_at i _ = false

-- the last session that the node i opens among the events completes there exactly once
abbrev pub CompletesOnce : List Event → ℕ → Type 0
CompletesOnce es i =
    (before : List Event) × (after : List Event) × (es ≡ before ++ Open i ∷ after)
    × (times (is_open_at i) after ≡ 0) × (times (is_finish_at i) after ≡ 1)

-- after the events the node i is normal in the session of its leader, which opened it among them and completed it once, and
-- has its start state
pub record IsRenewed {L : Type 0} (app : App L) (es : List Event) (c : Configuration L) (i : ℕ) : Type 0 where
  pub opened : CompletesOnce es (leader c.graph i)
  pub wave : wave_of c i ≡ record { phase = Normal; session = (wave_of c (leader c.graph i)).session }
  pub local : local_of app c i ≡ app.start c.graph i

-- the events are of waves, few of them, by which c becomes c', which is sound, and in which each node is renewed
pub record Renews {L : Type 0} (app : App L) (c : Configuration L) (es : List Event) (c' : Configuration L) : Type 0 where
  pub steps : AreSteps app c es c'
  pub only : list_all is_of_a_wave es ≡ true
  pub few : length es ≤ 5 * length c.graph.nodes
  pub sound : IsSound c'
  pub each : (i : ℕ) → IsNode c'.graph i → IsRenewed app es c' i

-- the repairs heal c, and the reset renews what they leave
pub record Recovers {L : Type 0} (app : App L) (c : Configuration L) (repairs reset : List Event) : Type 0 where
  pub healed : Configuration L
  pub renewed : Configuration L
  pub heals : Heals app c repairs healed
  pub renews : Renews app healed reset renewed
