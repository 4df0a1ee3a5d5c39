-- What an application's invariant is of a configuration.
use Rattle.std.specs.Prelude.{ℕ}
use Rattle.app_interface.specs.Application.{App}
use Rattle.topology.specs.Components.{component}
use Rattle.topology.specs.Graph.{Graph}
use Rattle.reset_model.specs.Configuration.{Configuration}
use Rattle.reset_model.specs.Refinement.{abstract_of}

-- the fact Inv holds of the abstract states of i's component
abbrev pub HoldsAt : {L : Type 0} → App L → (Graph → (ℕ → L) → Type 0) → Configuration L → ℕ → Type 0
HoldsAt app Inv c i = Inv (component c.graph i) (abstract_of app c)
