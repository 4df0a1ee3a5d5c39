-- Nodes that finish in turn, farther ones first, where all have joined: after all of them none is reset.
use Rattle.std.proofs.Common.{◌≡◌, ◌≢◌, ℕ, ◌+◌, ◌<◌, ◌≤◌, inl, inr, false, List, Contains, length, slice_index_or}
use Rattle.std.proofs.Common.{refl, sym, ap, subst, ◌∙◌, ⊎_elim, arith}
use Rattle.std.proofs.lemmas.Bool.{cases_eq, cases_lt}
use Rattle.app_interface.specs.Application.{App}
use Rattle.topology.specs.Components.{leader}
use Rattle.topology.specs.Graph.{Graph, IsGraph, IsNode}
use Rattle.topology.proofs.Components.{leader_node}
use Rattle.tree_layer.specs.TreeRows.{IsFather}
use Rattle.wave_layer.specs.declared.regs.Phase.{Phase}
use Rattle.wave_layer.specs.declared.regs.Phase.TheVariants.{Normal, Initiate, Reset}
use Rattle.wave_layer.specs.declared.regs.WaveRegs.{WaveRegs}
use Rattle.wave_layer.specs.WaveTable.{is_reset}
use Rattle.reset_model.specs.declared.event.Event.TheVariants.{Finish}
use Rattle.reset_model.specs.Configuration.{Configuration, local_of, tree_of, wave_of}
use Rattle.reset_model.specs.MachineSteps.{IsStep}
use Rattle.reset_model.specs.Sound.{IsSound}
use Rattle.reset_model.specs.Steps.{Finishes, reset_at}
use Rattle.reset_model.specs.WavePicture.{HasJoined}
use Rattle.reset_model.proofs.Fathers.{IsTop, IsUnder, father_leader, not_own_father, top_or_under}
use Rattle.reset_model.proofs.SoundConfigurations.{step_sound}
use Rattle.recovery.specs.Drafts.{DraftView, Tried}
use Rattle.recovery.specs.FalseNodes.{far_of}
use Rattle.recovery.specs.Resetting.{AllJoined, FinishesSoFar, HasFinished, IsInward, NoneReset}
use Rattle.recovery.proofs.Leading.{same_item}
use Rattle.recovery.proofs.MendingOut.{kept_itself, kept_on}
use Rattle.recovery.proofs.WaveMoves.{Moved, inward_on, moved, node_on, tree_picture}

-- an item of the list is a node
pub inward_node : {L : Type 0} (b : Configuration L) (order : List ℕ) → IsInward b order → (k d : ℕ) → k < length order
    → IsNode b.graph (slice_index_or order k d)
inward_node b order inward k d low =
    inward.only (slice_index_or order k d) (k, low, same_item order k (slice_index_or order k d) d low)

-- ---- what finishing changes, step after step

pub finished_itself : {L : Type 0} (app : App L) (c : Configuration L) → HasFinished app c c
finished_itself app c = record {
  keeps = kept_itself c;
  sessions = λ i node. refl;
  phases = λ i node. inr refl;
  locals = λ i node. refl;
}

pub finished_on : {L : Type 0} (app : App L) (c m c' : Configuration L) → HasFinished app c m → HasFinished app m c'
    → HasFinished app c c'
finished_on app c m c' before after =
    let there : (i : ℕ) → IsNode c.graph i → IsNode m.graph i = node_on c m before.keeps in
    record {
      keeps = kept_on c m c' before.keeps after.keeps;
      sessions = λ i node. after.sessions i (there i node) ∙ before.sessions i node;
      phases = λ i node. ⊎_elim (λ normal. inl normal)
          (λ same. ⊎_elim (λ normal. inl (same ∙ normal)) (λ was. inr (same ∙ was)) (before.phases i node))
          (after.phases i (there i node));
      locals = λ i node. after.locals i (there i node) ∙ before.locals i node;
    }

-- all have joined still
pub joined_on : {L : Type 0} (app : App L) (c c' : Configuration L) → IsGraph c.graph → HasFinished app c c' → AllJoined c
    → AllJoined c'
joined_on app c c' graph by joined =
    let P : Graph → Type 0 = λ g. (i : ℕ) → IsNode g i → HasJoined g (wave_of c') i in
    subst P (sym by.keeps.graph)
    (λ i node. by.sessions i node ∙ joined i node
    ∙ sym (by.sessions (leader c.graph i) (leader_node c.graph i graph node)))

-- ---- one node

module _ {L : Type 0} (app : App L) (c : Configuration L) (graph : IsGraph c.graph) (order : List ℕ) (n d : ℕ)
    (low : n < length order) (so_far : FinishesSoFar c order n) where
  abbrev at : ℕ
  at = slice_index_or order n d

  pub at_node : IsNode c.graph at
  at_node = inward_node c order so_far.inward n d low

  farther : (k : ℕ) → IsFather c.graph (tree_of c) k at → far_of c at + 1 ≡ far_of c k
  farther k father =
      let P : ℕ → Type 0 = λ i. far_of c i + 1 ≡ far_of c k in
      ⊎_elim
      (λ (top : IsTop c.graph (tree_of c) k).
      absurd (not_own_father c.graph (tree_of c) k at graph father (sym top.father ∙ father.named)))
      (λ (under : IsUnder c.graph (tree_of c) k). subst P father.named (sym under.dist))
      (top_or_under c.graph graph (tree_of c) (tree_picture c graph so_far.sound) k
      (graph.ends k at father.linked))

  child_done : (k : ℕ) → IsFather c.graph (tree_of c) k at
      → (reset_at (wave_of c) k ≡ false) × ((wave_of c k).session ≡ (wave_of c at).session)
  child_done k father =
      let node = graph.ends k at father.linked in
      let found : Contains order k = so_far.inward.all k node in
      let l = found.0 in
      let P : ℕ → Type 0 = λ i. reset_at (wave_of c) i ≡ false in
      let far = farther k father in (
        ⊎_elim
            (λ before. subst P found.2 (so_far.first l k before))
            (λ behind.
            let down = so_far.inward.falling n l k behind found.1 in
            let same_l = ap (far_of c) found.2 in
            let same_n = ap (far_of c) (same_item order n d k low) in
            absurd (omega (arith, far, down, same_l, same_n)))
            (cases_lt l n),
        so_far.joined k node
            ∙ ap (λ i. (wave_of c i).session) (sym (father_leader c.graph graph (tree_of c) k at father))
            ∙ sym (so_far.joined at at_node),
      )

  -- where it can't finish it isn't reset
  not_reset : (Finishes c.graph (tree_of c) (wave_of c) at → ⊥) → reset_at (wave_of c) at ≡ false
  not_reset none = by_phase (wave_of c at).phase refl
    where
      by_phase : (p : Phase) → (wave_of c at).phase ≡ p → reset_at (wave_of c) at ≡ false
      by_phase Normal is = ap is_reset is
      by_phase Initiate is = ap is_reset is
      by_phase Reset is = absurd (none (record { reset = is; children = child_done }))

  one_more : (c' : Configuration L) → IsGraph c.graph → HasFinished app c c' → IsSound c'
      → ((i : ℕ) → IsNode c.graph i → i ≢ at → wave_of c' i ≡ wave_of c i) → reset_at (wave_of c') at ≡ false
      → FinishesSoFar c' order (n + 1)
  one_more c' are by sound others here =
      let P : ℕ → Type 0 = λ i. reset_at (wave_of c') i ≡ false in
      record {
        inward = inward_on c c' by.keeps order so_far.inward;
        sound = sound;
        joined = joined_on app c c' are by so_far.joined;
        first = λ k e short.
            let x = slice_index_or order k e in
            ⊎_elim
            (λ before. ⊎_elim (λ same. subst P (sym same) here)
            (λ other. ap (λ (r : WaveRegs). is_reset r.phase)
            (others x (inward_node c order so_far.inward k e (omega (arith, before, low))) other)
            ∙ so_far.first k e before)
            (cases_eq x at))
            (λ last.
            let same : k ≡ n = omega (arith, short, last) in
            let item : x ≡ at = ap (λ y. slice_index_or order y e) same ∙ sym (same_item order n d e low) in
            subst P (sym item) here)
            (cases_lt k n);
      }

  by_moved : (c' : Configuration L) → Moved app c (Finish at) c' → HasFinished app c c'
  by_moved c' m = record {
    keeps = m.keeps;
    sessions = λ i node.
        let P : ℕ → Type 0 = λ k. (wave_of c' k).session ≡ (wave_of c k).session in
        ⊎_elim (λ same. subst P (sym same) (ap (λ (r : WaveRegs). r.session) m.here))
        (λ other. ap (λ (r : WaveRegs). r.session) (m.others i node other)) (cases_eq i at);
    phases = λ i node.
        let P : ℕ → Type 0 = λ k. (wave_of c' k).phase ≡ Normal in
        ⊎_elim (λ same. inl (subst P (sym same) (ap (λ (r : WaveRegs). r.phase) m.here)))
        (λ other. inr (ap (λ (r : WaveRegs). r.phase) (m.others i node other))) (cases_eq i at);
    locals = λ i node.
        let P : ℕ → Type 0 = λ k. local_of app c' k ≡ local_of app c k in
        ⊎_elim (λ same. subst P (sym same) m.local_here)
        (λ other. m.local_others i node other) (cases_eq i at);
  }

  pub tried_finish : (v v' : DraftView L) → v.config ≡ c → Tried app v (Finish at) v'
      → HasFinished app c v'.config × FinishesSoFar v'.config order (n + 1)
  tried_finish v v' is (inl did) =
      let P : Configuration L → Type 0 = λ k. IsStep app k (Finish at) v'.config in
      let step : IsStep app c (Finish at) v'.config = subst P is did.0 in
      let m = moved app c v'.config (Finish at) refl refl step in
      let by = by_moved v'.config m in (
        by,
        one_more v'.config graph by (step_sound app c v'.config (Finish at) graph step so_far.sound) m.others
            (ap (λ (r : WaveRegs). is_reset r.phase) m.here),
      )
  tried_finish v v' is (inr none) =
      let P : Configuration L → Type 0 = λ k. Finishes k.graph (tree_of k) (wave_of k) at → ⊥ in
      let Q : Configuration L → Type 0 = λ k. HasFinished app c k × FinishesSoFar k order (n + 1) in
      let by = finished_itself app c in
      subst Q (sym (ap (λ k. k.config) none.1 ∙ is))
      (by, one_more c graph by so_far.sound (λ i node other. refl) (not_reset (subst P is none.0)))

-- at the beginning and at the end
pub none_finished : {L : Type 0} (c : Configuration L) (order : List ℕ) → IsInward c order → IsSound c → AllJoined c
    → FinishesSoFar c order 0
none_finished c order inward sound joined =
    record { inward = inward; sound = sound; joined = joined; first = λ k d low. absurd (omega (arith, low)) }

pub all_finished : {L : Type 0} (c : Configuration L) (order : List ℕ) (n : ℕ) → length order ≤ n
    → FinishesSoFar c order n → NoneReset c
all_finished c order n whole so_far i node =
    let found : Contains order i = so_far.inward.all i node in
    let short : found.0 < length order = found.1 in
    let P : ℕ → Type 0 = λ k. reset_at (wave_of c) k ≡ false in
    subst P found.2 (so_far.first found.0 i (omega (arith, short, whole)))
