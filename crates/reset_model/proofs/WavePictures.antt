-- Over a tree picture the predicate holds at every father link exactly where the wave picture holds.
use Rattle.std.proofs.Common.{◌≡◌, ℕ, true, false, ◌⊎◌, ◌↔◌, inl, inr, sym, ap, subst, ◌∙◌, ⊎_elim, true≢false}
use Rattle.std.proofs.lemmas.Bool.{cases_Bool, cases_eq}
use Rattle.topology.specs.Components.{leader}
use Rattle.topology.specs.Graph.{Graph, IsGraph, IsNode}
use Rattle.tree_layer.specs.declared.regs.TreeRegs.{TreeRegs}
use Rattle.tree_layer.specs.TreeRows.{IsFather}
use Rattle.tree_layer.specs.TreePicture.{TreePicture}
use Rattle.tree_layer.proofs.Leaders.{linked_node}
use Rattle.wave_layer.specs.declared.regs.WaveRegs.{WaveRegs}
use Rattle.wave_layer.specs.Sessions.{next_session}
use Rattle.wave_layer.specs.WaveTable.{WaveHolds}
use Rattle.reset_model.specs.Steps.{reset_at}
use Rattle.reset_model.specs.WavePicture.{WaveSound, HasJoined, WavePicture}
use Rattle.reset_model.proofs.Fathers.{IsTop, IsUnder, down_tree, father_leader, top_or_under}

-- the node is not reset and one session behind its leader
record IsBehind (g : Graph) (m : ℕ) (w : ℕ → WaveRegs) (i : ℕ) : Type 0 where
  awake : reset_at w i ≡ false
  next : next_session m (w i).session ≡ (w (leader g i)).session

-- ---- from the predicate to the picture

module _ (g : Graph) (graph : IsGraph g) (t : ℕ → TreeRegs) (picture : TreePicture g t)
    (m : ℕ) (w : ℕ → WaveRegs) (sound : WaveSound g m t w) where
  -- a father has its child's leader, and so that leader's session before it
  led : (i j : ℕ) → IsFather g t i j → (w (leader g j)).session ≡ (w (leader g i)).session
  led i j father = ap (λ k. (w k).session) (father_leader g graph t i j father)

  below_joined : (i j : ℕ) → IsFather g t i j → HasJoined g w j → HasJoined g w i ⊎ IsBehind g m w i
  below_joined i j father joined =
      ⊎_elim
      (λ up. ⊎_elim
      (λ same. inl (same ∙ joined ∙ led i j father))
      (λ late. inr (record { awake = late.0; next = sym late.1 ∙ joined ∙ led i j father }))
      ((sound i j father).resetting up))
      (λ up. inl (((sound i j father).awake up).1 ∙ joined ∙ led i j father))
      (cases_Bool (reset_at w j))

  below_behind : (i j : ℕ) → IsFather g t i j → IsBehind g m w j → IsBehind g m w i
  below_behind i j father behind =
      let held = (sound i j father).awake behind.awake in
      record { awake = held.0; next = ap (next_session m) held.1 ∙ behind.next ∙ led i j father }

  joined_or_behind : (i : ℕ) → IsNode g i → HasJoined g w i ⊎ IsBehind g m w i
  joined_or_behind =
      down_tree g graph t picture (λ i. HasJoined g w i ⊎ IsBehind g m w i)
      (λ i node top. inl (ap (λ k. (w k).session) top))
      (λ i j father up. ⊎_elim (λ joined. below_joined i j father joined)
      (λ behind. inr (below_behind i j father behind)) up)

  fathers_joined : (i : ℕ) → IsNode g i → HasJoined g w i → HasJoined g w (t i).father
  fathers_joined i node joined =
      ⊎_elim
      (λ (top : IsTop g t i). subst (HasJoined g w) (sym top.father) joined)
      (λ (under : IsUnder g t i).
      let up = (t i).father in
      ⊎_elim
      (λ above. above)
      (λ (behind : IsBehind g m w up).
      sym ((sound i up under.father).awake behind.awake).1 ∙ joined ∙ sym (led i up under.father))
      (joined_or_behind up (linked_node g graph i up under.father.linked)))
      (top_or_under g graph t picture i node)

  fathers_reset : (i : ℕ) → IsNode g i → reset_at w i ≡ true → reset_at w (t i).father ≡ true
  fathers_reset i node own =
      ⊎_elim
      (λ (top : IsTop g t i). ap (λ k. reset_at w k) top.father ∙ own)
      (λ (under : IsUnder g t i).
      let up = (t i).father in
      ⊎_elim
      (λ reset. reset)
      (λ awake. absurd (true≢false (sym own ∙ ((sound i up under.father).awake awake).0)))
      (cases_Bool (reset_at w up)))
      (top_or_under g graph t picture i node)

  reset_at_edge : (i : ℕ) → IsNode g i → (HasJoined g w i → ⊥) → HasJoined g w (t i).father
      → reset_at w (t i).father ≡ true
  reset_at_edge i node apart joined =
      ⊎_elim
      (λ (top : IsTop g t i). absurd (apart (ap (λ k. (w k).session) top.leads)))
      (λ (under : IsUnder g t i).
      let up = (t i).father in
      ⊎_elim
      (λ reset. reset)
      (λ awake. absurd (apart (((sound i up under.father).awake awake).1 ∙ joined ∙ led i up under.father)))
      (cases_Bool (reset_at w up)))
      (top_or_under g graph t picture i node)

  late_together : (i : ℕ) → IsNode g i → (HasJoined g w i → ⊥) → (HasJoined g w (t i).father → ⊥)
      → (w i).session ≡ (w (t i).father).session
  late_together i node apart above =
      ⊎_elim
      (λ (top : IsTop g t i). absurd (apart (ap (λ k. (w k).session) top.leads)))
      (λ (under : IsUnder g t i).
      let up = (t i).father in
      ⊎_elim
      (λ joined. absurd (above joined))
      (λ (behind : IsBehind g m w up). ((sound i up under.father).awake behind.awake).1)
      (joined_or_behind up (linked_node g graph i up under.father.linked)))
      (top_or_under g graph t picture i node)

  sound_picture : WavePicture g m t w
  sound_picture = record {
    upward = fathers_joined;
    outside =
        λ i node apart. ⊎_elim (λ joined. absurd (apart joined))
        (λ (behind : IsBehind g m w i). (behind.awake, behind.next)) (joined_or_behind i node);
    resetting = fathers_reset;
    edge = reset_at_edge;
    together = late_together;
  }

-- ---- from the picture to the predicate

module _ (g : Graph) (graph : IsGraph g) (m : ℕ) (t : ℕ → TreeRegs) (w : ℕ → WaveRegs) (wave : WavePicture g m t w) (i : ℕ)
    (node : IsNode g i) (up_node : IsNode g (t i).father) (one : leader g (t i).father ≡ leader g i) where
  led_up : (w (leader g (t i).father)).session ≡ (w (leader g i)).session
  led_up = ap (λ k. (w k).session) one

  awake_under : reset_at w (t i).father ≡ false → reset_at w i ≡ false
  awake_under up =
      ⊎_elim (λ own. absurd (true≢false (sym (wave.resetting i node own) ∙ up))) (λ own. own)
      (cases_Bool (reset_at w i))

  same_under : reset_at w (t i).father ≡ false → (w i).session ≡ (w (t i).father).session
  same_under up =
      ⊎_elim
      (λ (joined : HasJoined g w i). joined ∙ sym led_up ∙ sym (wave.upward i node joined))
      (λ (apart : HasJoined g w i → ⊥).
      let above : HasJoined g w (t i).father → ⊥ = λ joined. true≢false (sym (wave.edge i node apart joined) ∙ up) in
      wave.together i node apart above)
      (cases_eq (w i).session (w (leader g i)).session)

  late_under : reset_at w (t i).father ≡ true
      → ((w i).session ≡ (w (t i).father).session)
      ⊎ ((reset_at w i ≡ false) × ((w (t i).father).session ≡ next_session m (w i).session))
  late_under up =
      let above : HasJoined g w (t i).father =
      ⊎_elim
      (λ joined. joined)
      (λ (apart : HasJoined g w (t i).father → ⊥). absurd
      (true≢false (sym up ∙ (wave.outside (t i).father up_node apart).0)))
      (cases_eq (w (t i).father).session (w (leader g (t i).father)).session) in
      ⊎_elim
      (λ (joined : HasJoined g w i). inl (joined ∙ sym led_up ∙ sym above))
      (λ (apart : HasJoined g w i → ⊥). let behind = wave.outside i node apart in inr (behind.0, above ∙ led_up ∙ sym behind.1))
      (cases_eq (w i).session (w (leader g i)).session)

  holds_under : WaveHolds m (w i) (w (t i).father)
  holds_under = record { awake = λ up. (awake_under up, same_under up); resetting = late_under }

picture_sound : (g : Graph) → IsGraph g → (m : ℕ) (t : ℕ → TreeRegs) (w : ℕ → WaveRegs) → WavePicture g m t w
    → WaveSound g m t w
picture_sound g graph m t w wave i j father =
    let held =
    holds_under g graph m t w wave i (graph.ends i j father.linked)
    (rw father.named (linked_node g graph i j father.linked))
    (rw father.named (father_leader g graph t i j father)) in
    rw father.named at held

pub sound_where_picture : (g : Graph) (m : ℕ) (t : ℕ → TreeRegs) (w : ℕ → WaveRegs) → IsGraph g → TreePicture g t
    → (WaveSound g m t w ↔ WavePicture g m t w)
sound_where_picture g m t w graph picture = (sound_picture g graph t picture m w, picture_sound g graph m t w)
