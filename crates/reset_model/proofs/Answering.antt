-- From unrest to rest leads a completion alone.
use Rattle.std.proofs.Common.{◌≡◌, ◌≢◌, ℕ, true, List, [], ◌∷◌, Contains, ◌⊎◌, inl, inr, ⊎_elim, refl, sym, ap}
use Rattle.std.proofs.Common.{subst, ◌∙◌, suc, true≢false, arith}
use Rattle.std.proofs.lemmas.Bool.{cases_Bool, cases_eq}
use Rattle.action_tables.specs.Modulus.{IsModulus}
use Rattle.app_interface.specs.Application.{App}
use Rattle.topology.specs.Components.{leader}
use Rattle.topology.specs.Graph.{Graph, IsGraph, IsNode, IsReached, node_bound}
use Rattle.topology.proofs.Components.{leader_leads, leader_node, one_leader, reached_node, reached_on, same_leader}
use Rattle.topology.proofs.Walks.{reached_back}
use Rattle.tree_layer.specs.declared.regs.TreeRegs.{TreeRegs}
use Rattle.tree_layer.proofs.TreePictures.{rests_picture}
use Rattle.wave_layer.specs.declared.regs.Phase.{Phase}
use Rattle.wave_layer.specs.declared.regs.Phase.TheVariants.{Normal, Initiate, Reset}
use Rattle.wave_layer.specs.declared.regs.WaveRegs.{WaveRegs}
use Rattle.wave_layer.specs.WaveTable.{is_reset}
use Rattle.reset_model.specs.declared.event.Event.{Event}
use Rattle.reset_model.specs.declared.event.Event.TheVariants.{Claim, Follow, Adopt, Request, Relay, Open, Join, Finish}
use Rattle.reset_model.specs.declared.event.Event.TheVariants.{Mend, Act}
use Rattle.reset_model.specs.Configuration.{Configuration, tree_of, wave_of}
use Rattle.reset_model.specs.Headline.{Completes, Steps, Transition}
use Rattle.reset_model.specs.MachineSteps.{IsStep, row_step, act_step}
use Rattle.reset_model.specs.Progress.{IsSettled}
use Rattle.reset_model.specs.Sound.{IsSound, Sound, claims, follows, adopts, mends}
use Rattle.reset_model.specs.Steps.{Joins, join_asked, join_normal, RegsStep, event_node, reset_at}
use Rattle.reset_model.specs.WavePicture.{HasJoined}
use Rattle.reset_model.proofs.CompleteResets.{all_awake}
use Rattle.reset_model.proofs.ComponentSteps.{reached_or_not}
use Rattle.reset_model.proofs.GoingOn.{some_or_all}
use Rattle.reset_model.proofs.Headlines.{step_kept}
use Rattle.reset_model.proofs.SoundSteps.{sound_rests, sound_stays}

-- the leader p is reset, or a node of its component is initiate
pub data IsStirred (g : Graph) (w : ℕ → WaveRegs) (p : ℕ) : Type 0 where
  leader_reset : reset_at w p ≡ true → IsStirred g w p
  node_asked : (j : ℕ) → IsReached g p j → (w j).phase ≡ Initiate → IsStirred g w p

module _ (g : Graph) (graph : IsGraph g) (K m : ℕ) (p : ℕ) (top : IsNode g p) (leads : p ≡ leader g p) where
  module _ (t : ℕ → TreeRegs) (w : ℕ → WaveRegs) (sound : Sound g K m t w) where
    pub top_father : (t p).father ≡ p
    top_father =
        let picture = rests_picture g graph K t sound.tree in
        picture.top p top
        (leads ∙ one_leader g p (leader g p) (t p).root (leader_leads g p graph top) (picture.root p top))

    -- where a node of the component is reset or hasn't joined, the leader is reset
    top_resets : (k : ℕ) → IsReached g p k → (reset_at w k ≡ true) ⊎ (HasJoined g w k → ⊥) → reset_at w p ≡ true
    top_resets k r late =
        ⊎_elim
        (λ reset. reset)
        (λ awake.
        let here = all_awake g K m t w p graph top sound top_father awake k r in
        absurd (⊎_elim
        (λ reset. true≢false (sym reset ∙ here.0))
        (λ apart. apart (here.1 ∙ ap (λ n. (w n).session) (leads ∙ sym (same_leader g p k graph top r))))
        late))
        (cases_Bool (reset_at w p))

    -- a component rests or is stirred
    node_stirs : (k : ℕ) → IsReached g p k
        → IsStirred g w p ⊎ (((w k).phase ≡ Normal) × HasJoined g w k)
    node_stirs k r =
        ⊎_elim (λ joined. by_phase (w k).phase refl joined)
        (λ apart. inl (leader_reset (top_resets k r (inr apart))))
        (cases_eq (w k).session (w (leader g k)).session)
      where
        by_phase : (x : Phase) → (w k).phase ≡ x → HasJoined g w k
            → IsStirred g w p ⊎ (((w k).phase ≡ Normal) × HasJoined g w k)
        by_phase Normal is joined = inr (is, joined)
        by_phase Initiate is joined = inl (node_asked k r is)
        by_phase Reset is joined = inl (leader_reset (top_resets k r (inl (ap is_reset is))))

    pub stirred_or_rests : IsStirred g w p ⊎ ((k : ℕ) → IsReached g p k → ((w k).phase ≡ Normal) × HasJoined g w k)
    stirred_or_rests =
        let Here : ℕ → Type 0 = λ k. IsReached g p k → ((w k).phase ≡ Normal) × HasJoined g w k in
        let each : (k : ℕ) → Contains g.nodes k → IsStirred g w p ⊎ Here k =
        λ k there. ⊎_elim
        (λ r. ⊎_elim (λ stirs. inl stirs) (λ rests. inr (λ _. rests)) (node_stirs k r))
        (λ never. inr (λ r. absurd (never r)))
        (reached_or_not g graph p top k) in
        ⊎_elim
        (λ some. inl some.2)
        (λ all. inr (λ k r. all k (reached_node g p k graph top r) r))
        (some_or_all (λ _. IsStirred g w p) Here g.nodes each)

    pub stirred_unsettled : IsStirred g w p → ((k : ℕ) → IsReached g p k → ((w k).phase ≡ Normal) × HasJoined g w k) → ⊥
    stirred_unsettled (leader_reset reset) rests = true≢false (sym reset ∙ ap is_reset (rests p ([], refl)).0)
    stirred_unsettled (node_asked j r asked) rests =
        let both : Initiate ≡ Normal = sym asked ∙ (rests j r).0 in cc

  -- ---- one step

  module _ (t t' : ℕ → TreeRegs) (w w' : ℕ → WaveRegs) (sound : Sound g K m t w) where
    not_joins : (j : ℕ) → Joins g m t w j → reset_at w j ≡ true → ⊥
    not_joins j (join_normal up father resets phase next) reset = true≢false (sym reset ∙ ap is_reset phase)
    not_joins j (join_asked up father resets phase next) reset = true≢false (sym reset ∙ ap is_reset phase)

    -- all that a leader that is reset can do is to finish
    reset_stays_but : (e : Event) → RegsStep g K m t w e t' w' → event_node e ≡ p → reset_at w p ≡ true
        → e ≡ Finish p
    reset_stays_but (Claim k) step here reset =
        absurd (sound_rests g K m t w (Claim k) step.node sound (claims k) step.enabled)
    reset_stays_but (Follow k) step here reset =
        absurd (sound_rests g K m t w (Follow k) step.node sound (follows k) step.enabled)
    reset_stays_but (Adopt k j) step here reset =
        absurd (sound_rests g K m t w (Adopt k j) step.node sound (adopts k j) step.enabled)
    reset_stays_but (Request k) step here reset =
        absurd (true≢false (sym reset ∙ ap (reset_at w) (sym here) ∙ ap is_reset step.enabled))
    reset_stays_but (Relay k c) step here reset =
        absurd (true≢false (sym reset ∙ ap (reset_at w) (sym here) ∙ ap is_reset step.enabled.0))
    reset_stays_but (Open k) step here reset =
        absurd (true≢false (sym reset ∙ ap (reset_at w) (sym here) ∙ ap is_reset step.enabled.1))
    reset_stays_but (Join k) step here reset = absurd (not_joins k step.enabled (ap (reset_at w) here ∙ reset))
    reset_stays_but (Finish k) step here reset = ap Finish here
    reset_stays_but (Mend k) step here reset =
        absurd (sound_rests g K m t w (Mend k) step.node sound (mends k) step.enabled)
    reset_stays_but (Act k case with) step here reset = absurd step.enabled

    -- what an initiate node does leaves it reset
    asked_resets : (e : Event) → RegsStep g K m t w e t' w' → (w (event_node e)).phase ≡ Initiate
        → reset_at w' (event_node e) ≡ true
    asked_resets (Claim k) step asked =
        absurd (sound_rests g K m t w (Claim k) step.node sound (claims k) step.enabled)
    asked_resets (Follow k) step asked =
        absurd (sound_rests g K m t w (Follow k) step.node sound (follows k) step.enabled)
    asked_resets (Adopt k j) step asked =
        absurd (sound_rests g K m t w (Adopt k j) step.node sound (adopts k j) step.enabled)
    asked_resets (Request k) step asked = let both : Initiate ≡ Normal = sym asked ∙ step.enabled in absurd (cc)
    asked_resets (Relay k c) step asked = let both : Initiate ≡ Normal = sym asked ∙ step.enabled.0 in absurd (cc)
    asked_resets (Open k) step asked = ap (λ (a : WaveRegs). is_reset a.phase) step.waves.here
    asked_resets (Join k) step asked = ap (λ (a : WaveRegs). is_reset a.phase) step.waves.here
    asked_resets (Finish k) step asked =
        let both : Initiate ≡ Reset = sym asked ∙ step.enabled.reset in absurd (cc)
    asked_resets (Mend k) step asked =
        absurd (sound_rests g K m t w (Mend k) step.node sound (mends k) step.enabled)
    asked_resets (Act k case with) step asked = absurd step.enabled

    row_stirs : (e : Event) → RegsStep g K m t w e t' w' → IsStirred g w p → (e ≡ Finish p) ⊎ IsStirred g w' p
    row_stirs e step (leader_reset reset) =
        ⊎_elim
        (λ here. inl (reset_stays_but e step here reset))
        (λ other. inr
        (leader_reset (ap (λ (a : WaveRegs). is_reset a.phase) (step.waves.others p top (λ same. other (sym same))) ∙ reset)))
        (cases_eq (event_node e) p)
    row_stirs e step (node_asked j r asked) =
        ⊎_elim
        (λ (here : event_node e ≡ j).
        let reset : reset_at w' j ≡ true =
        ap (reset_at w') (sym here) ∙ asked_resets e step (ap (λ n. (w n).phase) here ∙ asked) in
        inr (leader_reset (top_resets t' w' (sound_stays g K m t t' w w' e graph sound step) j r (inl reset))))
        (λ (other : event_node e ≢ j). inr
        (node_asked j r
        (ap (λ (a : WaveRegs). a.phase) (step.waves.others j (reached_node g p j graph top r) (λ same. other (sym same)))
        ∙ asked)))
        (cases_eq (event_node e) j)

-- ---- many steps

module _ {L : Type 0} (app : App L) where
  step_stirs : (c c' : Configuration L) (e : Event) (p : ℕ) → IsGraph c.graph → IsSound c → IsNode c.graph p
      → p ≡ leader c.graph p → IsStep app c e c' → IsStirred c.graph (wave_of c) p
      → (e ≡ Finish p) ⊎ IsStirred c.graph (wave_of c') p
  step_stirs c c' e p graph sound top leads (row_step step) stirred =
      row_stirs c.graph graph (node_bound c.graph) c.modulus p top leads (tree_of c) (tree_of c') (wave_of c) (wave_of c')
      sound e step.regs stirred
  step_stirs c c' e p graph sound top leads (act_step i case with is step) stirred =
      let waves : wave_of c' ≡ wave_of c = rw (step.graph, step.waves) refl in
      inr (subst (λ w. IsStirred c.graph w p) (sym waves) stirred)

  -- some step of the list completes at p
  abbrev Completed : List (Transition L) → ℕ → Type 0
  Completed ss p = (s : Transition L) × Contains ss s × Completes s p

  steps_complete : (ss : List (Transition L)) (c c' : Configuration L) (p : ℕ) → IsGraph c.graph → IsModulus c.modulus
      → IsSound c → IsNode c.graph p → p ≡ leader c.graph p → Steps app c ss c' → IsStirred c.graph (wave_of c) p
      → IsSettled c' p → Completed ss p
  steps_complete [] c c' p graph counted sound top leads steps stirred settled =
      let Settles : Configuration L → Type 0 = λ k. IsSettled k p in
      absurd
      (stirred_unsettled c.graph graph (node_bound c.graph) c.modulus p top leads (tree_of c) (wave_of c) sound stirred
      (subst Settles steps settled))
  steps_complete (s ∷ ss) c c' p graph counted sound top leads steps stirred settled =
      let d = s.after in
      let kept = step_kept app c d s.event graph counted sound steps.1 in
      let On : Graph → Type 0 = λ h. IsGraph h × IsNode h p × (p ≡ leader h p) in
      let there : On d.graph = subst On (sym kept.graph) (graph, top, leads) in
      ⊎_elim
      (λ (finishes : s.event ≡ Finish p).
      let Own : Configuration L → Type 0 = λ k. (tree_of k p).father ≡ p in
      let own : Own s.before =
      subst Own (sym steps.0)
      (top_father c.graph graph (node_bound c.graph) c.modulus p top leads (tree_of c) (wave_of c) sound) in
      (s, (0, omega arith, refl), (finishes, own)))
      (λ (goes : IsStirred c.graph (wave_of d) p).
      let Stirs : Graph → Type 0 = λ h. IsStirred h (wave_of d) p in
      let rest =
      steps_complete ss d c' p there.0 kept.modulus kept.sound there.1 there.2 steps.2
      (subst Stirs (sym kept.graph) goes) settled in
      (rest.0, (suc rest.1.0, omega (arith, rest.1.1), rest.1.2), rest.2))
      (step_stirs c d s.event p graph sound top leads steps.1 stirred)

  -- from unrest to rest of i's component its leader completes a session
  pub answered : (ss : List (Transition L)) (c c' : Configuration L) (i : ℕ) → IsGraph c.graph → IsModulus c.modulus
      → IsSound c → IsNode c.graph i → c'.graph ≡ c.graph → Steps app c ss c' → (IsSettled c i → ⊥) → IsSettled c' i
      → (s : Transition L) × Contains ss s × Completes s (leader c.graph i)
  answered ss c c' i graph counted sound node same steps unsettled settled =
      let g = c.graph in
      let p = leader g i in
      let there : IsReached g i p = (leader_leads g i graph node).reached in
      let leads : p ≡ leader g p = sym (same_leader g i p graph node there) in
      let top = leader_node g i graph node in
      let Settles : Graph → ℕ → Type 0 =
      λ h n. (j : ℕ) → IsReached h n j → ((wave_of c' j).phase ≡ Normal) × HasJoined h (wave_of c') j in
      let at_i : Settles g i = subst (λ h. Settles h i) same settled in
      let at_p : Settles g p = λ j r. at_i j (reached_on g i p j there r) in
      let at_end : IsSettled c' p = subst (λ h. Settles h p) (sym same) at_p in
      ⊎_elim
      (λ stirred. steps_complete ss c c' p graph counted sound top leads steps stirred at_end)
      (λ rests. absurd (unsettled (λ j r. rests j (reached_on g p i j (reached_back g graph i p there) r))))
      (stirred_or_rests g graph (node_bound g) c.modulus p top leads (tree_of c) (wave_of c) sound)
