-- Sound registers: both local predicates hold everywhere.
use Rattle.std.specs.Prelude.{◌≡◌, ℕ, false}
use Rattle.topology.specs.Graph.{Graph, IsNode, IsReached, node_bound}
use Rattle.tree_layer.specs.declared.regs.TreeRegs.{TreeRegs}
use Rattle.tree_layer.specs.TreePicture.{TreeRests}
use Rattle.wave_layer.specs.declared.regs.WaveRegs.{WaveRegs}
use Rattle.reset_model.specs.WavePicture.{WaveSound}
use Rattle.reset_model.specs.Configuration.{Configuration, tree_of, wave_of}
use Rattle.reset_model.specs.Steps.{reset_at}
use Rattle.reset_model.specs.declared.event.Event.{Event}
use Rattle.reset_model.specs.declared.event.Event.TheVariants.{Claim, Follow, Adopt, Mend}

-- no row of the tree table is enabled at a node, where K bounds the distances, and the wave
-- predicate, with sessions modulo m, holds at every father link
pub record Sound (g : Graph) (K m : ℕ) (t : ℕ → TreeRegs) (w : ℕ → WaveRegs) : Type 0 where
  pub tree : (i : ℕ) → IsNode g i → TreeRests g K t i
  pub wave : WaveSound g m t w

-- the registers of a configuration are sound
abbrev pub IsSound : {L : Type 0} → Configuration L → Type 0
IsSound c = Sound c.graph (node_bound c.graph) c.modulus (tree_of c) (wave_of c)

-- every node of i's component is in the session and none is reset
abbrev pub IsComplete : {L : Type 0} → Configuration L → ℕ → ℕ → Type 0
IsComplete c i session =
    (j : ℕ) → IsReached c.graph i j → (reset_at (wave_of c) j ≡ false) × ((wave_of c j).session ≡ session)

-- the events that repair registers
pub data Repairs : Event → Type 0 where
  claims : (i : ℕ) → Repairs (Claim i)
  follows : (i : ℕ) → Repairs (Follow i)
  adopts : (i j : ℕ) → Repairs (Adopt i j)
  mends : (i : ℕ) → Repairs (Mend i)
