-- The wave predicate at every father link, and the picture of the whole wave that it amounts to.
use Rattle.std.specs.Prelude.{◌≡◌, ℕ, true, false}
use Rattle.topology.specs.Components.{leader}
use Rattle.topology.specs.Graph.{Graph, IsNode}
use Rattle.tree_layer.specs.declared.regs.TreeRegs.{TreeRegs}
use Rattle.tree_layer.specs.TreeRows.{IsFather}
use Rattle.wave_layer.specs.declared.regs.WaveRegs.{WaveRegs}
use Rattle.wave_layer.specs.Sessions.{next_session}
use Rattle.wave_layer.specs.WaveTable.{WaveHolds}
use Rattle.reset_model.specs.Steps.{reset_at}

-- the predicate, with sessions modulo m, holds at every father link
abbrev pub WaveSound : Graph → ℕ → (ℕ → TreeRegs) → (ℕ → WaveRegs) → Type 0
WaveSound g m t w = (i j : ℕ) → IsFather g t i j → WaveHolds m (w i) (w j)

-- a node has joined where it has its leader's session
abbrev pub HasJoined : Graph → (ℕ → WaveRegs) → ℕ → Type 0
HasJoined g w i = (w i).session ≡ (w (leader g i)).session

-- the nodes that have joined contain their fathers; any other is not reset and one session behind;
-- the father of a reset node is reset, and so is a father that has joined before its child; where neither has
-- joined they have one session
pub record WavePicture (g : Graph) (m : ℕ) (t : ℕ → TreeRegs) (w : ℕ → WaveRegs) : Type 0 where
  pub upward : (i : ℕ) → IsNode g i → HasJoined g w i → HasJoined g w (t i).father
  pub outside : (i : ℕ) → IsNode g i → (HasJoined g w i → ⊥)
      → (reset_at w i ≡ false) × (next_session m (w i).session ≡ (w (leader g i)).session)
  pub resetting : (i : ℕ) → IsNode g i → reset_at w i ≡ true → reset_at w (t i).father ≡ true
  pub edge : (i : ℕ) → IsNode g i → (HasJoined g w i → ⊥) → HasJoined g w (t i).father → reset_at w (t i).father ≡ true
  pub together : (i : ℕ) → IsNode g i → (HasJoined g w i → ⊥) → (HasJoined g w (t i).father → ⊥)
      → (w i).session ≡ (w (t i).father).session
