-- Nodes that join in turn, nearer ones first: after all of them each is in its leader's session.
use Rattle.std.proofs.Common.{◌≡◌, ◌≢◌, ℕ, ◌+◌, ◌<◌, ◌≤◌, inl, inr, true, false, List, Contains, length, slice_index_or}
use Rattle.std.proofs.Common.{refl, sym, ap, subst, ◌∙◌, ⊎_elim, true≢false, arith}
use Rattle.std.proofs.lemmas.Bool.{cases_eq, cases_lt}
use Rattle.app_interface.specs.Application.{App}
use Rattle.topology.specs.Components.{leader}
use Rattle.topology.specs.Graph.{Graph, IsGraph, IsNode}
use Rattle.topology.proofs.Components.{leader_leads, leader_node, same_leader}
use Rattle.tree_layer.specs.TreeRows.{IsFather}
use Rattle.tree_layer.proofs.Leaders.{linked_node}
use Rattle.wave_layer.specs.declared.regs.Phase.{Phase}
use Rattle.wave_layer.specs.declared.regs.Phase.TheVariants.{Normal, Initiate, Reset}
use Rattle.wave_layer.specs.declared.regs.WaveRegs.{WaveRegs}
use Rattle.wave_layer.specs.WaveTable.{is_reset}
use Rattle.wave_layer.specs.Sessions.{next_session}
use Rattle.reset_model.specs.declared.event.Event.TheVariants.{Join}
use Rattle.reset_model.specs.Configuration.{Configuration, tree_of, wave_of}
use Rattle.reset_model.specs.MachineSteps.{IsStep}
use Rattle.reset_model.specs.Sound.{IsSound}
use Rattle.reset_model.specs.Steps.{Joins, join_asked, join_normal, reset_at}
use Rattle.reset_model.specs.WavePicture.{HasJoined}
use Rattle.reset_model.proofs.Fathers.{IsTop, IsUnder, father_leader, not_own_father, top_or_under}
use Rattle.reset_model.proofs.SoundConfigurations.{step_sound}
use Rattle.recovery.specs.Drafts.{DraftView, Tried}
use Rattle.recovery.specs.FalseNodes.{far_of}
use Rattle.recovery.specs.Mended.{KeepsTree}
use Rattle.recovery.specs.Outward.{IsOutward}
use Rattle.recovery.specs.Resetting.{AllJoined, JoinsSoFar}
use Rattle.recovery.proofs.Leading.{same_item}
use Rattle.recovery.proofs.MendingOut.{kept_itself}
use Rattle.recovery.proofs.Outward.{item_node}
use Rattle.recovery.proofs.WaveMoves.{Moved, leader_own, moved, outward_on, tree_picture, wave_picture}

-- the father of a node that can join
joins_father : (g : Graph) (m : ℕ) (t : ℕ → _) (w : ℕ → _) (i : ℕ) → Joins g m t w i → (j : ℕ) × IsFather g t i j
joins_father g m t w i (join_normal j father up phase next) = (j, father)
joins_father g m t w i (join_asked j father up phase next) = (j, father)

module _ {L : Type 0} (app : App L) (c : Configuration L) (graph : IsGraph c.graph) (order : List ℕ) (n d : ℕ)
    (low : n < length order) (so_far : JoinsSoFar c order n) where
  abbrev at : ℕ
  at = slice_index_or order n d

  pub at_node : IsNode c.graph at
  at_node = item_node c order so_far.out n d low

  no_leader : Joins c.graph c.modulus (tree_of c) (wave_of c) at → at ≡ leader c.graph at → ⊥
  no_leader joins leads =
      let up = joins_father c.graph c.modulus (tree_of c) (wave_of c) at joins in
      not_own_father c.graph (tree_of c) at up.0 graph up.1
      (sym (leader_own c graph so_far.sound at at_node leads) ∙ up.1.named)

  -- its father is among the first n
  father_joined : IsUnder c.graph (tree_of c) at → HasJoined c.graph (wave_of c) (tree_of c at).father
  father_joined under =
      let f = (tree_of c at).father in
      let found : Contains order f = so_far.out.all f (linked_node c.graph graph at f under.father.linked) in
      let k = found.0 in
      let P : ℕ → Type 0 = λ i. HasJoined c.graph (wave_of c) i in
      ⊎_elim
      (λ before. subst P found.2 (so_far.first k f before))
      (λ behind.
      let up = so_far.out.rising n k f behind found.1 in
      let same_k = ap (far_of c) found.2 in
      let same_n = ap (far_of c) (same_item order n d f low) in
      absurd (omega (arith, under.dist, up, same_k, same_n)))
      (cases_lt k n)

  father_session : IsUnder c.graph (tree_of c) at
      → (wave_of c (tree_of c at).father).session ≡ (wave_of c (leader c.graph at)).session
  father_session under =
      father_joined under
      ∙ ap (λ k. (wave_of c k).session) (father_leader c.graph graph (tree_of c) at (tree_of c at).father under.father)

  -- where it can't join it has joined
  rests_joined : (Joins c.graph c.modulus (tree_of c) (wave_of c) at → ⊥) → HasJoined c.graph (wave_of c) at
  rests_joined none =
      ⊎_elim
      (λ (top : IsTop c.graph (tree_of c) at). ap (λ k. (wave_of c k).session) top.leads)
      (λ (under : IsUnder c.graph (tree_of c) at). ⊎_elim (λ same. same) (λ other. absurd (stuck under other))
      (cases_eq (wave_of c at).session (wave_of c (leader c.graph at)).session))
      (top_or_under c.graph graph (tree_of c) (tree_picture c graph so_far.sound) at at_node)
    where
      stuck : IsUnder c.graph (tree_of c) at → (HasJoined c.graph (wave_of c) at → ⊥) → ⊥
      stuck under other =
          let picture = wave_picture c graph so_far.sound in
          let f = (tree_of c at).father in
          let apart = picture.outside at at_node other in
          let up = picture.edge at at_node other (father_joined under) in
          let next : (wave_of c f).session ≡ next_session c.modulus (wave_of c at).session =
          father_session under ∙ sym apart.1 in
          by_phase (wave_of c at).phase refl up next apart.0
        where
          by_phase : (p : Phase) → (wave_of c at).phase ≡ p → reset_at (wave_of c) (tree_of c at).father ≡ true
              → (wave_of c (tree_of c at).father).session ≡ next_session c.modulus (wave_of c at).session
              → reset_at (wave_of c) at ≡ false → ⊥
          by_phase Normal is up next awake = none (join_normal (tree_of c at).father under.father up is next)
          by_phase Initiate is up next awake = none (join_asked (tree_of c at).father under.father up is next)
          by_phase Reset is up next awake = true≢false (sym (ap is_reset is) ∙ awake)

  module _ (c' : Configuration L) (step : Moved app c (Join at) c') where
    stays : (i : ℕ) → IsNode c.graph i → i ≢ at → leader c.graph i ≢ at → HasJoined c.graph (wave_of c) i
        → HasJoined c.graph (wave_of c') i
    stays i node other apart joined =
        ap (λ (r : WaveRegs). r.session) (step.others i node other) ∙ joined
        ∙ ap (λ (r : WaveRegs). r.session) (sym (step.others (leader c.graph i) (leader_node c.graph i graph node) apart))

    at_joined : HasJoined c.graph (wave_of c') at
    at_joined =
        ⊎_elim
        (λ (top : IsTop c.graph (tree_of c) at). absurd (no_leader step.enabled top.leads))
        (λ (under : IsUnder c.graph (tree_of c) at).
        ap (λ (r : WaveRegs). r.session) step.here ∙ father_session under
        ∙ ap (λ (r : WaveRegs). r.session)
        (sym (step.others (leader c.graph at) (leader_node c.graph at graph at_node)
        (λ same. no_leader step.enabled (sym same)))))
        (top_or_under c.graph graph (tree_of c) (tree_picture c graph so_far.sound) at at_node)

    item_joined : (k e : ℕ) → k < n → HasJoined c.graph (wave_of c') (slice_index_or order k e)
    item_joined k e before =
        let x = slice_index_or order k e in
        let node = item_node c order so_far.out k e (omega (arith, before, low)) in
        let P : ℕ → Type 0 = λ i. HasJoined c.graph (wave_of c') i in
        ⊎_elim
        (λ same. subst P (sym same) at_joined)
        (λ other. stays x node other
        (λ same. no_leader step.enabled
        (let twice = same_leader c.graph x (leader c.graph x) graph node (leader_leads c.graph x graph node).reached in
        sym same ∙ sym twice ∙ ap (leader c.graph) same))
        (so_far.first k e before))
        (cases_eq x at)

  did_join : (c' : Configuration L) → IsStep app c (Join at) c' → KeepsTree c c' × JoinsSoFar c' order (n + 1)
  did_join c' step =
      let m = moved app c c' (Join at) refl refl step in
      let Q : Graph → Type 0 = λ g. (k e : ℕ) → k < n + 1 → HasJoined g (wave_of c') (slice_index_or order k e) in
      let P : ℕ → Type 0 = λ i. HasJoined c.graph (wave_of c') i in
      let first : Q c.graph = λ k e short. ⊎_elim (λ before. item_joined c' m k e before)
      (λ last.
      let same : k ≡ n = omega (arith, short, last) in
      let item : slice_index_or order k e ≡ at =
      ap (λ x. slice_index_or order x e) same ∙ sym (same_item order n d e low) in
      subst P (sym item) (at_joined c' m))
      (cases_lt k n) in (
        m.keeps,
        record {
          out = outward_on c c' m.keeps order so_far.out;
          sound = step_sound app c c' (Join at) graph step so_far.sound;
          first = subst Q (sym m.keeps.graph) first;
        },
      )

  rests : (Joins c.graph c.modulus (tree_of c) (wave_of c) at → ⊥) → JoinsSoFar c order (n + 1)
  rests none =
      let P : ℕ → Type 0 = λ i. HasJoined c.graph (wave_of c) i in
      record {
        out = so_far.out;
        sound = so_far.sound;
        first = λ k e short. ⊎_elim (λ before. so_far.first k e before)
            (λ last.
            let same : k ≡ n = omega (arith, short, last) in
            let item : slice_index_or order k e ≡ at =
            ap (λ x. slice_index_or order x e) same ∙ sym (same_item order n d e low) in
            subst P (sym item) (rests_joined none))
            (cases_lt k n);
      }

  pub tried_join : (v v' : DraftView L) → v.config ≡ c → Tried app v (Join at) v'
      → KeepsTree c v'.config × JoinsSoFar v'.config order (n + 1)
  tried_join v v' is (inl did) =
      let P : Configuration L → Type 0 = λ k. IsStep app k (Join at) v'.config in did_join v'.config (subst P is did.0)
  tried_join v v' is (inr none) =
      let P : Configuration L → Type 0 = λ k. Joins k.graph k.modulus (tree_of k) (wave_of k) at → ⊥ in
      let Q : Configuration L → Type 0 = λ k. KeepsTree c k × JoinsSoFar k order (n + 1) in
      subst Q (sym (ap (λ k. k.config) none.1 ∙ is)) (kept_itself c, rests (subst P is none.0))

-- at the beginning and at the end
pub none_joined : {L : Type 0} (c : Configuration L) (order : List ℕ) → IsOutward c order → IsSound c → JoinsSoFar c order 0
none_joined c order out sound = record { out = out; sound = sound; first = λ k d low. absurd (omega (arith, low)) }

pub all_joined : {L : Type 0} (c : Configuration L) (order : List ℕ) (n : ℕ) → length order ≤ n → JoinsSoFar c order n
    → AllJoined c
all_joined c order n whole so_far i node =
    let found : Contains order i = so_far.out.all i node in
    let short : found.0 < length order = found.1 in
    let P : ℕ → Type 0 = λ k. HasJoined c.graph (wave_of c) k in
    subst P found.2 (so_far.first found.0 i (omega (arith, short, whole)))
