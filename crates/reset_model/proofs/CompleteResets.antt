-- Where registers are sound and a leader is not reset, no node of its component is, and each has its session.
use Rattle.std.proofs.Common.{◌≡◌, ℕ, false, refl, sym, ap, subst, ◌∙◌}
use Rattle.topology.specs.Components.{leader}
use Rattle.topology.specs.Graph.{Graph, IsGraph, IsNode, IsReached}
use Rattle.topology.proofs.Components.{same_leader}
use Rattle.tree_layer.specs.declared.regs.TreeRegs.{TreeRegs}
use Rattle.tree_layer.specs.TreeRows.{IsFather}
use Rattle.tree_layer.proofs.TreePictures.{rests_picture}
use Rattle.wave_layer.specs.declared.regs.WaveRegs.{WaveRegs}
use Rattle.wave_layer.specs.WaveTable.{is_reset}
use Rattle.reset_model.specs.declared.event.Event.TheVariants.{Finish}
use Rattle.reset_model.specs.Steps.{reset_at, RegsStep}
use Rattle.reset_model.specs.Sound.{Sound}
use Rattle.tree_layer.proofs.Leaders.{walked_node}
use Rattle.reset_model.proofs.Fathers.{down_tree, own_father, reached_father}
use Rattle.reset_model.proofs.SoundSteps.{sound_stays}

-- the node is not reset and has this session
abbrev pub IsAwake : (ℕ → WaveRegs) → ℕ → ℕ → Type 0
IsAwake w session i = (reset_at w i ≡ false) × ((w i).session ≡ session)

-- where a node that is its own father is not reset, no node of its component is, and each has its session
pub all_awake : (g : Graph) (K m : ℕ) (t : ℕ → TreeRegs) (w : ℕ → WaveRegs) (i : ℕ) → IsGraph g
    → IsNode g i → Sound g K m t w → (t i).father ≡ i → reset_at w i ≡ false
    → (j : ℕ) → IsReached g i j → IsAwake w (w i).session j
all_awake g K m t w i graph node sound own awake j reached =
    let picture = rests_picture g graph K t sound.tree in
    let Here : ℕ → Type 0 = λ k. IsReached g i k → IsAwake w (w i).session k in
    let top : (k : ℕ) → IsNode g k → k ≡ leader g k → Here k =
    λ k there leads r.
    let one : i ≡ k = own_father g graph t picture i node own ∙ sym (same_leader g i k graph node r) ∙ sym leads in
    subst (IsAwake w (w i).session) one (awake, refl) in
    let below : (c up : ℕ) → IsFather g t c up → Here up → Here c =
    λ c up father above r.
    let over = above (reached_father g t i c up father r) in
    let held = (sound.wave c up father).awake over.0 in
    (held.0, held.1 ∙ over.1) in
    down_tree g graph t picture Here top below j (walked_node g graph reached.0 i j node reached.1) reached

pub completed : (g : Graph) (K m : ℕ) (t t' : ℕ → TreeRegs) (w w' : ℕ → WaveRegs) (i : ℕ) → IsGraph g
    → Sound g K m t w → (t i).father ≡ i → RegsStep g K m t w (Finish i) t' w'
    → (j : ℕ) → IsReached g i j → IsAwake w' (w i).session j
completed g K m t t' w w' i graph sound own step j reached =
    let after = sound_stays g K m t t' w w' (Finish i) graph sound step in
    let here = step.waves.here in
    let still_own = ap (λ (r : TreeRegs). r.father) step.trees.here ∙ own in
    let awake =
    all_awake g K m t' w' i graph step.node after still_own (ap (λ (r : WaveRegs). is_reset r.phase) here) j
    reached in
    (awake.0, awake.1 ∙ ap (λ (r : WaveRegs). r.session) here)
