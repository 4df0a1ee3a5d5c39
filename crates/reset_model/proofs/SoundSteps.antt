-- Each step leaves sound registers sound.
use Rattle.std.proofs.Common.{◌≡◌, ◌≢◌, ℕ, ◌+◌, ◌<◌, ◌≤◌, true, false, ◌⊎◌, inl, inr, refl, sym, ap, subst, ◌∙◌, ⊎_elim}
use Rattle.std.proofs.Common.{true≢false}
use Rattle.std.proofs.lemmas.Bool.{cases_eq}
use Rattle.topology.specs.Graph.{Graph, IsGraph, IsNode, AreLinked, Changes}
use Rattle.tree_layer.specs.declared.regs.TreeRegs.{TreeRegs}
use Rattle.tree_layer.specs.TreeRows.{IsFather, Claims, Follows, Adopts, claim_low, claim_self, claim_stray, claim_far}
use Rattle.tree_layer.specs.TreeRows.{follow_root, follow_dist, adopt_root, adopt_short}
use Rattle.tree_layer.specs.TreePicture.{TreeRests}
use Rattle.tree_layer.proofs.Leaders.{linked_node}
use Rattle.wave_layer.specs.declared.regs.WaveRegs.{WaveRegs}
use Rattle.wave_layer.specs.declared.regs.Phase.TheVariants.{Normal, Initiate, Reset}
use Rattle.wave_layer.specs.WaveTable.{WaveHolds, is_reset}
use Rattle.wave_layer.specs.Sessions.{next_session}
use Rattle.reset_model.specs.declared.event.Event.{Event}
use Rattle.reset_model.specs.declared.event.Event.TheVariants.{Claim, Follow, Adopt, Request, Relay, Open, Join, Finish}
use Rattle.reset_model.specs.declared.event.Event.TheVariants.{Mend, Act}
use Rattle.reset_model.specs.Steps.{event_node, reset_at, IsEnabled, Joins, join_normal, join_asked, Finishes, RegsStep}
use Rattle.reset_model.specs.Sound.{Sound, Repairs, claims, follows, adopts, mends}
use Rattle.reset_model.proofs.Fathers.{not_own_father}
use Rattle.reset_model.proofs.Mending.{no_mend_where_sound}

-- ---- rows that repair

pub sound_rests : (g : Graph) (K m : ℕ) (t : ℕ → TreeRegs) (w : ℕ → WaveRegs) (e : Event) → IsNode g (event_node e)
    → Sound g K m t w → Repairs e → IsEnabled g K m t w e → ⊥
sound_rests g K m t w e node sound (claims i) enabled = (sound.tree i node).claims enabled
sound_rests g K m t w e node sound (follows i) enabled = (sound.tree i node).follows enabled
sound_rests g K m t w e node sound (adopts i j) enabled = (sound.tree i node).adopts j enabled
sound_rests g K m t w e node sound (mends i) enabled = no_mend_where_sound g m t w sound.wave i enabled

-- ---- tree registers that stay at every node

module _ (g : Graph) (graph : IsGraph g) (t t' : ℕ → TreeRegs) (stays : (k : ℕ) → IsNode g k → t' k ≡ t k) where
  father_before : (i j : ℕ) → IsFather g t' i j → IsFather g t i j
  father_before i j father = record {
    named = subst (λ (r : TreeRegs). r.father ≡ j) (stays i (graph.ends i j father.linked)) father.named;
    linked = father.linked;
  }

  module _ (K i : ℕ) (node : IsNode g i) where
    claims_before : Claims g K t' i → Claims g K t i
    claims_before (claim_low low) = claim_low (subst (λ (r : TreeRegs). r.root < i) (stays i node) low)
    claims_before (claim_self own wrong) =
        claim_self
        (subst (λ (r : TreeRegs). r.father ≡ i) (stays i node) own)
        (subst (λ (r : TreeRegs). (r.root ≢ i) ⊎ (r.dist ≢ 0)) (stays i node) wrong)
    claims_before (claim_stray other apart) =
        claim_stray
        (subst (λ (r : TreeRegs). r.father ≢ i) (stays i node) other)
        (subst (λ (r : TreeRegs). AreLinked g i r.father → ⊥) (stays i node) apart)
    claims_before (claim_far far) = claim_far (subst (λ (r : TreeRegs). K ≤ r.dist) (stays i node) far)

    follows_before : Follows g K t' i → Follows g K t i
    follows_before (follow_root j father low differ) =
        let own = stays i node in
        let up = stays j (linked_node g graph i j father.linked) in
        follow_root j (father_before i j father)
        (subst (λ (r : TreeRegs). r.dist < K) own low)
        (λ same. differ (ap (λ (r : TreeRegs). r.root) own ∙ same ∙ ap (λ (r : TreeRegs). r.root) (sym up)))
    follows_before (follow_dist j father low same differ) =
        let own = stays i node in
        let up = stays j (linked_node g graph i j father.linked) in
        follow_dist j (father_before i j father)
        (subst (λ (r : TreeRegs). r.dist < K) own low)
        (ap (λ (r : TreeRegs). r.root) (sym own) ∙ same ∙ ap (λ (r : TreeRegs). r.root) up)
        (λ one. differ (ap (λ (r : TreeRegs). r.dist) own ∙ one ∙ ap (λ (r : TreeRegs). r.dist + 1) (sym up)))

    adopts_before : (j : ℕ) → Adopts g K t' i j → Adopts g K t i j
    adopts_before j (adopt_root linked low less) =
        let own = stays i node in
        let near = stays j (linked_node g graph i j linked) in
        adopt_root linked
        (subst (λ (r : TreeRegs). r.dist < K) near low)
        (rw (sym own, sym near) less)
    adopts_before j (adopt_short linked low same less) =
        let own = stays i node in
        let near = stays j (linked_node g graph i j linked) in
        adopt_short linked
        (subst (λ (r : TreeRegs). r.dist < K) near low)
        (rw (sym own, sym near) same)
        (rw (sym own, sym near) less)

    rests_after : TreeRests g K t i → TreeRests g K t' i
    rests_after rests = record {
      claims = λ h. rests.claims (claims_before h);
      follows = λ h. rests.follows (follows_before h);
      adopts = λ j h. rests.adopts j (adopts_before j h);
    }

-- ---- wave registers that change at one node

-- as far as the predicate sees, the registers are the same
record IsAlike (new old : WaveRegs) : Type 0 where
  reset : is_reset new.phase ≡ is_reset old.phase
  session : new.session ≡ old.session

alike : (new old : WaveRegs) → new ≡ old → IsAlike new old
alike new old same =
    record { reset = ap (λ (r : WaveRegs). is_reset r.phase) same; session = ap (λ (r : WaveRegs). r.session) same }

holds_alike : {m : ℕ} {own own' up up' : WaveRegs} → IsAlike own' own → IsAlike up' up → WaveHolds m own up
    → WaveHolds m own' up'
holds_alike {m} same_own same_up held = record {
  awake = λ up.
      let before = held.awake (sym same_up.reset ∙ up) in
      (same_own.reset ∙ before.0, same_own.session ∙ before.1 ∙ sym same_up.session);
  resetting = λ up.
      ⊎_elim
      (λ same. inl (same_own.session ∙ same ∙ sym same_up.session))
      (λ late. inr (same_own.reset ∙ late.0, same_up.session ∙ late.1 ∙ ap (next_session m) (sym same_own.session)))
      (held.resetting (sym same_up.reset ∙ up));
}

module _ (g : Graph) (graph : IsGraph g) (K m : ℕ) (t t' : ℕ → TreeRegs) (w w' : ℕ → WaveRegs) (sound : Sound g K m t w)
    (i : ℕ) (trees : Changes g t i (t i) t') (x : WaveRegs) (waves : Changes g w i x w') where
  trees_stay : (k : ℕ) → IsNode g k → t' k ≡ t k
  trees_stay k node =
      ⊎_elim
      (λ same. ap t' same ∙ trees.here ∙ ap t (sym same))
      (λ other. trees.others k node other)
      (cases_eq k i)

  module _ (upward : (j : ℕ) → IsFather g t i j → WaveHolds m x (w j))
      (below : (c : ℕ) → IsFather g t c i → WaveHolds m (w c) x) where
    here_alike : (k : ℕ) → k ≡ i → IsAlike (w' k) x
    here_alike k same = alike (w' k) x (ap w' same ∙ waves.here)

    other_alike : (k : ℕ) → IsNode g k → k ≢ i → IsAlike (w' k) (w k)
    other_alike k node other = alike (w' k) (w k) (waves.others k node other)

    link_holds : (c j : ℕ) → IsFather g t c j → WaveHolds m (w' c) (w' j)
    link_holds c j father =
        let node = graph.ends c j father.linked in
        let up_node = linked_node g graph c j father.linked in
        let apart = not_own_father g t c j graph father in
        ⊎_elim
        (λ (child : c ≡ i). holds_alike (here_alike c child) (other_alike j up_node (λ same. apart (child ∙ sym same)))
        (upward j (subst (λ k. IsFather g t k j) child father)))
        (λ (other : c ≢ i). ⊎_elim
        (λ (up : j ≡ i). holds_alike (other_alike c node other) (here_alike j up)
        (below c (subst (λ k. IsFather g t c k) up father)))
        (λ (neither : j ≢ i). holds_alike (other_alike c node other) (other_alike j up_node neither)
        (sound.wave c j father))
        (cases_eq j i))
        (cases_eq c i)

    sound_after : Sound g K m t' w'
    sound_after = record {
      tree = λ k node. rests_after g graph t t' trees_stay K k node (sound.tree k node);
      wave = λ c j father. link_holds c j (father_before g graph t t' trees_stay c j father);
    }

-- ---- the events of the wave

-- a node that enters the next session stands well with a child that held with it before
below_opened : (m : ℕ) (child old new : WaveRegs) → is_reset old.phase ≡ false → is_reset new.phase ≡ true
    → new.session ≡ next_session m old.session → WaveHolds m child old → WaveHolds m child new
below_opened m child old new awake reset next held =
    let before = held.awake awake in
    record {
      awake = λ up. absurd (true≢false (sym reset ∙ up));
      resetting = λ up. inr (before.0, next ∙ ap (next_session m) (sym before.1));
    }

module _ (g : Graph) (graph : IsGraph g) (K m : ℕ) (t t' : ℕ → TreeRegs) (w w' : ℕ → WaveRegs) (sound : Sound g K m t w)
    (i : ℕ) (trees : Changes g t i (t i) t') where
  -- the phase changes, and the node was not reset and isn't
  asked_sound : is_reset (w i).phase ≡ false → Changes g w i (record { phase = Initiate; session = (w i).session }) w'
      → Sound g K m t' w'
  asked_sound awake waves =
      let x : WaveRegs = record { phase = Initiate; session = (w i).session } in
      let near : IsAlike x (w i) = record { reset = sym awake; session = refl } in
      sound_after g graph K m t t' w w' sound i trees x waves
      (λ j father. holds_alike near (alike (w j) (w j) refl) (sound.wave i j father))
      (λ c father. holds_alike (alike (w c) (w c) refl) near (sound.wave c i father))

  opened_sound : (t i).father ≡ i → is_reset (w i).phase ≡ false
      → Changes g w i (record { phase = Reset; session = next_session m (w i).session }) w' → Sound g K m t' w'
  opened_sound own awake waves =
      let x : WaveRegs = record { phase = Reset; session = next_session m (w i).session } in
      sound_after g graph K m t t' w w' sound i trees x waves
      (λ j father. absurd (not_own_father g t i j graph father (sym own ∙ father.named)))
      (λ c father. below_opened m (w c) (w i) x awake refl refl (sound.wave c i father))

  joined_sound : (j : ℕ) → IsFather g t i j → reset_at w j ≡ true → is_reset (w i).phase ≡ false
      → (w j).session ≡ next_session m (w i).session
      → Changes g w i (record { phase = Reset; session = (w (t i).father).session }) w' → Sound g K m t' w'
  joined_sound j father up awake next waves =
      let x : WaveRegs = record { phase = Reset; session = (w (t i).father).session } in
      sound_after g graph K m t t' w w' sound i trees x waves
      (λ k other. record {
        awake = λ none. absurd (true≢false (sym up ∙ ap (λ n. reset_at w n) (sym father.named ∙ other.named) ∙ none));
        resetting = λ some. inl (ap (λ n. (w n).session) other.named);
      })
      (λ c child. below_opened m (w c) (w i) x awake refl (ap (λ n. (w n).session) father.named ∙ next)
      (sound.wave c i child))

  finished_sound : Finishes g t w i → Changes g w i (record { phase = Normal; session = (w i).session }) w'
      → Sound g K m t' w'
  finished_sound finishes waves =
      let x : WaveRegs = record { phase = Normal; session = (w i).session } in
      let own : reset_at w i ≡ true = ap is_reset finishes.reset in
      sound_after g graph K m t t' w w' sound i trees x waves
      (λ j father. record {
        awake = λ none. absurd (true≢false (sym own ∙ ((sound.wave i j father).awake none).0));
        resetting =
            λ some. ⊎_elim (λ same. inl same) (λ late. absurd (true≢false (sym own ∙ late.0)))
            ((sound.wave i j father).resetting some);
      })
      (λ c child. record {
        awake = λ none. finishes.children c child;
        resetting = λ some. absurd (true≢false (sym some));
      })

  join_sound : Joins g m t w i → Changes g w i (record { phase = Reset; session = (w (t i).father).session }) w'
      → Sound g K m t' w'
  join_sound (join_normal j father up phase next) waves = joined_sound j father up (ap is_reset phase) next waves
  join_sound (join_asked j father up phase next) waves = joined_sound j father up (ap is_reset phase) next waves

pub sound_stays : (g : Graph) (K m : ℕ) (t t' : ℕ → TreeRegs) (w w' : ℕ → WaveRegs) (e : Event) → IsGraph g
    → Sound g K m t w → RegsStep g K m t w e t' w' → Sound g K m t' w'
sound_stays g K m t t' w w' (Claim i) graph sound step =
    absurd (sound_rests g K m t w (Claim i) step.node sound (claims i) step.enabled)
sound_stays g K m t t' w w' (Follow i) graph sound step =
    absurd (sound_rests g K m t w (Follow i) step.node sound (follows i) step.enabled)
sound_stays g K m t t' w w' (Adopt i j) graph sound step =
    absurd (sound_rests g K m t w (Adopt i j) step.node sound (adopts i j) step.enabled)
sound_stays g K m t t' w w' (Request i) graph sound step =
    asked_sound g graph K m t t' w w' sound i step.trees (ap is_reset step.enabled) step.waves
sound_stays g K m t t' w w' (Relay i c) graph sound step =
    asked_sound g graph K m t t' w w' sound i step.trees (ap is_reset step.enabled.0) step.waves
sound_stays g K m t t' w w' (Open i) graph sound step =
    opened_sound g graph K m t t' w w' sound i step.trees step.enabled.0 (ap is_reset step.enabled.1) step.waves
sound_stays g K m t t' w w' (Join i) graph sound step =
    join_sound g graph K m t t' w w' sound i step.trees step.enabled step.waves
sound_stays g K m t t' w w' (Finish i) graph sound step =
    finished_sound g graph K m t t' w w' sound i step.trees step.enabled step.waves
sound_stays g K m t t' w w' (Mend i) graph sound step =
    absurd (sound_rests g K m t w (Mend i) step.node sound (mends i) step.enabled)
sound_stays g K m t t' w w' (Act i case with) graph sound step = absurd step.enabled
