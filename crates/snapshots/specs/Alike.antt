-- Configurations that can't be told apart by their nodes.
use Rattle.std.specs.Prelude.{◌≡◌, ℕ}
use Rattle.app_interface.specs.Application.{App}
use Rattle.topology.specs.Graph.{IsNode}
use Rattle.reset_model.specs.Configuration.{Configuration, local_of, tree_of, wave_of}

-- they have one graph and one modulus, and the same registers and the same local state at each node
pub record AreAlike {L : Type 0} (app : App L) (c d : Configuration L) : Type 0 where
  pub graph : c.graph ≡ d.graph
  pub modulus : c.modulus ≡ d.modulus
  pub nodes : (i : ℕ) → IsNode c.graph i
      → (tree_of c i ≡ tree_of d i) × (wave_of c i ≡ wave_of d i) × (local_of app c i ≡ local_of app d i)
