-- Events that were steps.
use Rattle.std.specs.Prelude.{◌≡◌, ℕ, List}
use Rattle.app_interface.specs.Application.{App}
use Rattle.topology.specs.Graph.{Graph, IsNode}
use Rattle.reset_model.specs.declared.event.Event.{Event}
use Rattle.reset_model.specs.Configuration.{Configuration}
use Rattle.reset_model.specs.Headline.{Headline, Steps, Transition, events_of}
use Rattle.reset_model.specs.Progress.{WavesEnd}

-- c became c' by steps of exactly these events, of which the headline holds, and in each component the waves end
pub record IsBySteps {L : Type 0} (app : App L) (Inv : Graph → (ℕ → L) → Type 0) (c : Configuration L) (es : List Event)
    (c' : Configuration L) : Type 0 where
  pub taken : List (Transition L)
  pub events : events_of taken ≡ es
  pub steps : Steps app c taken c'
  pub headline : Headline app Inv c taken c'
  pub ends : (i : ℕ) → IsNode c.graph i → WavesEnd app c taken c' i
