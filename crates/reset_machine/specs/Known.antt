-- What is known of the nodes of a configuration is true.
use Rattle.std.specs.Prelude.{◌≡◌, ℕ, true, false, length, slice_index}
use Rattle.app_interface.specs.Application.{App}
use Rattle.reset_model.specs.Configuration.{Configuration}
use Rattle.reset_machine.specs.Enabled.{is_ready}
use Rattle.reset_machine.specs.ReadySet.{IsKnownIdle, IsKnownReady, Standing}

pub record IsKnown {L : Type 0} (app : App L) (c : Configuration L) (s : Standing) : Type 0 where
  pub count : length s.nodes ≡ length c.graph.ids
  pub ready : (n : ℕ) → IsKnownReady s n → is_ready app c (slice_index c.graph.ids n) ≡ true
  pub idle : (n : ℕ) → IsKnownIdle s n → is_ready app c (slice_index c.graph.ids n) ≡ false
