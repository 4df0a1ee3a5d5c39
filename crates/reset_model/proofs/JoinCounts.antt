-- From an opening to its completion each node of the component but its leader joins exactly once.
use Rattle.std.proofs.Common.{◌≡◌, ◌≢◌, ℕ, ◌+◌, Bool, true, false, cond, nat_eq, List, [], ◌∷◌, refl, sym, ap, subst}
use Rattle.std.proofs.Common.{◌∙◌, ⊎_elim, true≢false, arith}
use Rattle.std.proofs.lemmas.Bool.{cases_eq, eqb-true, eq-eqb, ne_eqb}
use Rattle.action_tables.specs.Modulus.{IsModulus}
use Rattle.app_interface.specs.Application.{App}
use Rattle.topology.specs.Components.{leader}
use Rattle.topology.specs.Graph.{Graph, IsGraph, IsNode, IsReached, node_bound}
use Rattle.topology.proofs.Components.{reached_node, reached_on, same_leader}
use Rattle.topology.proofs.Walks.{reached_back}
use Rattle.tree_layer.specs.declared.regs.TreeRegs.{TreeRegs}
use Rattle.tree_layer.proofs.TreePictures.{rests_picture}
use Rattle.wave_layer.specs.declared.regs.WaveRegs.{WaveRegs}
use Rattle.reset_model.specs.declared.event.Event.{Event}
use Rattle.reset_model.specs.declared.event.Event.TheVariants.{Claim, Follow, Adopt, Request, Relay, Open, Join, Finish}
use Rattle.reset_model.specs.declared.event.Event.TheVariants.{Mend, Act}
use Rattle.reset_model.specs.declared.step.Reply.TheVariants.{Applied, Complete}
use Rattle.reset_model.specs.Completion.{is_join_at, is_open_at, times}
use Rattle.reset_model.specs.Configuration.{Configuration, local_of, tree_of, wave_of}
use Rattle.reset_model.specs.MachineSteps.{IsStep, row_step, act_step}
use Rattle.reset_model.specs.Refinement.{has_joined}
use Rattle.reset_model.specs.Sound.{IsSound, Sound, claims, follows, adopts, mends}
use Rattle.reset_model.specs.Steps.{RegsStep, reply_of}
use Rattle.reset_model.proofs.Abstractions.{joined_stays, joins_after, joins_apart, joins_others, opened_apart}
use Rattle.reset_model.proofs.Abstractions.{opened_elsewhere, opens_at_leader, sessions_stay}
use Rattle.reset_model.proofs.Fathers.{own_father}
use Rattle.reset_model.proofs.SoundConfigurations.{step_complete}
use Rattle.reset_model.proofs.SoundSteps.{sound_rests}

-- 1 where the node has joined, else 0
abbrev pub joined_number : Graph → (ℕ → WaveRegs) → ℕ → ℕ
joined_number g w i = cond (has_joined g w i) 1 0

-- 1 where the event is a join of the node, else 0
abbrev pub joins_now : Event → ℕ → ℕ
joins_now e i = cond (is_join_at i e) 1 0

-- 1 where the event opens a session at the node, else 0
abbrev pub opens_now : ℕ → Event → ℕ
opens_now i e = cond (is_open_at i e) 1 0

-- ---- one step, which opens no session at the leader of a component

-- nobody in p's component opens a session, and the nodes there that have joined are those from before and the event's
-- own where it joins
pub record Counts (g : Graph) (p : ℕ) (w w' : ℕ → WaveRegs) (e : Event) : Type 0 where
  pub closed : (i : ℕ) → IsReached g p i → is_open_at i e ≡ false
  pub number : (i : ℕ) → IsReached g p i → joined_number g w' i ≡ joins_now e i + joined_number g w i

module _ (g : Graph) (graph : IsGraph g) (K m : ℕ) (counted : IsModulus m) (t t' : ℕ → TreeRegs)
    (w w' : ℕ → WaveRegs) (sound : Sound g K m t w) (p : ℕ) (top : IsNode g p) (leads : p ≡ leader g p) where
  stays : ((i : ℕ) → IsNode g i → (w' i).session ≡ (w i).session) → (i : ℕ) → IsReached g p i
      → joined_number g w' i ≡ 0 + joined_number g w i
  stays same i reached =
      let number : joined_number g w' i ≡ joined_number g w i =
      ap (λ b. cond b 1 0) (joined_stays g w w' graph same i (reached_node g p i graph top reached)) in
      omega (arith, number)

  -- an opening at another node than the leader happens in another component
  open_counts : (k : ℕ) → RegsStep g K m t w (Open k) t' w' → is_open_at p (Open k) ≡ false → Counts g p w w' (Open k)
  open_counts k step unopened =
      let apart : IsReached g p k → ⊥ =
      λ r. true≢false (sym (eq-eqb k p
      (opens_at_leader g graph K m counted t t' w w' sound k step ∙ same_leader g p k graph top r ∙ sym leads))
      ∙ unopened) in
      record {
        closed = λ i reached. ne_eqb k i (λ same. apart (subst (IsReached g p) (sym same) reached));
        number = λ i reached.
            let far : IsReached g k i → ⊥ =
            λ r. apart (reached_on g p i k reached (reached_back g graph k i r)) in
            let number : joined_number g w' i ≡ joined_number g w i =
            ap (λ b. cond b 1 0)
            (opened_elsewhere g graph K m counted t t' w w' sound k step i (reached_node g p i graph top reached) far)
            in
            omega (arith, number);
      }

  join_counts : (k : ℕ) → RegsStep g K m t w (Join k) t' w' → (i : ℕ) → IsReached g p i
      → joined_number g w' i ≡ joins_now (Join k) i + joined_number g w i
  join_counts k step i reached =
      let node = reached_node g p i graph top reached in
      ⊎_elim
      (λ here.
      let apart : has_joined g w i ≡ false =
      ap (has_joined g w) here ∙ joins_apart g graph K m counted t t' w w' sound k step in
      let after : has_joined g w' i ≡ true =
      ap (has_joined g w') here ∙ joins_after g graph K m counted t t' w w' sound k step in
      let before : joined_number g w i ≡ 0 = ap (λ b. cond b 1 0) apart in
      let number : joined_number g w' i ≡ 1 = ap (λ b. cond b 1 0) after in
      let now : joins_now (Join k) i ≡ 1 = ap (λ b. cond b 1 0) (eq-eqb k i (sym here)) in
      omega (arith, before, number, now))
      (λ other.
      let number : joined_number g w' i ≡ joined_number g w i =
      ap (λ b. cond b 1 0) (joins_others g graph K m counted t t' w w' sound k step i node other) in
      let now : joins_now (Join k) i ≡ 0 = ap (λ b. cond b 1 0) (ne_eqb k i (λ same. other (sym same))) in
      omega (arith, number, now))
      (cases_eq i k)

  none_opened : (e : Event) → ((i : ℕ) → is_open_at i e ≡ false)
      → ((i : ℕ) → IsReached g p i → joined_number g w' i ≡ joins_now e i + joined_number g w i) → Counts g p w w' e
  none_opened e closed number = record { closed = λ i reached. closed i; number = number }

  row_counts : (e : Event) → RegsStep g K m t w e t' w' → is_open_at p e ≡ false → Counts g p w w' e
  row_counts (Claim i) step unopened = absurd (sound_rests g K m t w (Claim i) step.node sound (claims i) step.enabled)
  row_counts (Follow i) step unopened = absurd (sound_rests g K m t w (Follow i) step.node sound (follows i) step.enabled)
  row_counts (Adopt i j) step unopened =
      absurd (sound_rests g K m t w (Adopt i j) step.node sound (adopts i j) step.enabled)
  row_counts (Request i) step unopened =
      none_opened (Request i) (λ k. refl) (stays (sessions_stay g w w' i _ step.waves refl))
  row_counts (Relay i k) step unopened =
      none_opened (Relay i k) (λ n. refl) (stays (sessions_stay g w w' i _ step.waves refl))
  row_counts (Open i) step unopened = open_counts i step unopened
  row_counts (Join i) step unopened = none_opened (Join i) (λ k. refl) (join_counts i step)
  row_counts (Finish i) step unopened =
      none_opened (Finish i) (λ k. refl) (stays (sessions_stay g w w' i _ step.waves refl))
  row_counts (Mend i) step unopened = absurd (sound_rests g K m t w (Mend i) step.node sound (mends i) step.enabled)
  row_counts (Act i case with) step unopened = absurd step.enabled

module _ {L : Type 0} (app : App L) where
  pub step_counts : (c c' : Configuration L) (e : Event) (p : ℕ) → IsGraph c.graph → IsModulus c.modulus → IsSound c
      → IsNode c.graph p → p ≡ leader c.graph p
      → IsStep app c e c' → is_open_at p e ≡ false → Counts c.graph p (wave_of c) (wave_of c') e
  step_counts c c' e p graph counted sound top leads (row_step step) unopened =
      row_counts c.graph graph (node_bound c.graph) c.modulus counted (tree_of c) (tree_of c') (wave_of c)
      (wave_of c') sound p top leads e step.regs unopened
  step_counts c c' e p graph counted sound top leads (act_step i case with is step) unopened =
      let waves : wave_of c' ≡ wave_of c = rw (step.graph, step.waves) refl in
      record {
        closed = λ k reached. ap (is_open_at k) is;
        number = λ k reached.
            let same : joined_number c.graph (wave_of c') k ≡ joined_number c.graph (wave_of c) k =
            ap (λ w. joined_number c.graph w k) waves in
            let now : joins_now e k ≡ 0 = ap (λ d. joins_now d k) is in
            omega (arith, same, now);
      }

  -- ---- a run in which the leader of a component opens no session

  pub record RunCounts (c c' : Configuration L) (p : ℕ) (es : List Event) : Type 0 where
    pub closed : (i : ℕ) → IsReached c.graph p i → times (is_open_at i) es ≡ 0
    pub number : (i : ℕ) → IsReached c.graph p i
        → joined_number c.graph (wave_of c') i ≡ times (is_join_at i) es + joined_number c.graph (wave_of c) i

  pub none_first : (p : Event → Bool) (e : Event) (es : List Event) → times p (e ∷ es) ≡ 0
      → (p e ≡ false) × (times p es ≡ 0)
  none_first p e es none = at (p e) refl
    where
      at : (b : Bool) → p e ≡ b → (p e ≡ false) × (times p es ≡ 0)
      at true is = let h : 1 + times p es ≡ 0 = rw is at none in absurd (omega (arith, h))
      at false is = let h : 0 + times p es ≡ 0 = rw is at none in (is, omega (arith, h))

  -- ---- from an opening to its completion

  -- the node of an opening is its leader, and right after it no other node of its component has joined
  pub opening_counts : (c c' : Configuration L) (o : ℕ) → IsGraph c.graph → IsModulus c.modulus → IsSound c
      → IsStep app c (Open o) c'
      → IsNode c.graph o × (o ≡ leader c.graph o)
      × ((i : ℕ) → IsReached c.graph o i → i ≢ o → joined_number c.graph (wave_of c') i ≡ 0)
  opening_counts c c' o graph counted sound (act_step i case with is step) = absurd (cc)
  opening_counts c c' o graph counted sound (row_step step) = (
    step.regs.node,
    opens_at_leader c.graph graph (node_bound c.graph) c.modulus counted (tree_of c) (tree_of c') (wave_of c)
        (wave_of c') sound o step.regs,
    λ i reached other. ap (λ b. cond b 1 0)
        (opened_apart c.graph graph (node_bound c.graph) c.modulus counted (tree_of c) (tree_of c') (wave_of c)
        (wave_of c') sound o step.regs i (reached_node c.graph o i graph step.regs.node reached) reached other),
  )

  -- a leader has joined always
  pub top_counts : (g : Graph) (w : ℕ → WaveRegs) (p : ℕ) → p ≡ leader g p → joined_number g w p ≡ 1
  top_counts g w p leads = ap (λ b. cond b 1 0) (eq-eqb (w p).session _ (ap (λ k. (w k).session) leads))

  pub own_finish : (t : ℕ → TreeRegs) (w : ℕ → WaveRegs) (p x : ℕ) (b : Bool) → nat_eq (t p).father p ≡ b
      → cond b (Complete (w p).session) Applied ≡ Complete x → (t p).father ≡ p
  own_finish t w p x true own told = eqb-true _ _ own
  own_finish t w p x false other told = absurd (cc)

  -- the node of a completion is its leader, and right before it each node of its component has joined
  pub finishing_counts : (c c' : Configuration L) (p x : ℕ) → IsGraph c.graph → IsSound c
      → IsStep app c (Finish p) c' → reply_of (tree_of c) (wave_of c) (Finish p) ≡ Complete x
      → IsNode c.graph p × (p ≡ leader c.graph p)
      × ((i : ℕ) → IsReached c.graph p i → joined_number c.graph (wave_of c) i ≡ 1)
  finishing_counts c c' p x graph sound (act_step i case with is step) told = absurd (cc)
  finishing_counts c c' p x graph sound (row_step step) told =
      let own : (tree_of c p).father ≡ p = own_finish (tree_of c) (wave_of c) p x _ refl told in
      let picture = rests_picture c.graph graph (node_bound c.graph) (tree_of c) sound.tree in
      let leads : p ≡ leader c.graph p = own_father c.graph graph (tree_of c) picture p step.regs.node own in
      let Done : Graph → Type 0 = λ g. (i : ℕ) → IsReached g p i → (wave_of c' i).session ≡ x in
      let done : Done c.graph =
      subst Done step.graph
      (λ i reached. (step_complete app c c' (Finish p) x graph (row_step step) sound told i reached).1) in
      let before : (i : ℕ) → IsReached c.graph p i → (wave_of c i).session ≡ x =
      λ i reached. sym (sessions_stay c.graph (wave_of c) (wave_of c') p _ step.regs.waves refl i
      (reached_node c.graph p i graph step.regs.node reached))
      ∙ done i reached in
      let up : (i : ℕ) → IsReached c.graph p i → (wave_of c (leader c.graph i)).session ≡ x =
      λ i reached. ap (λ k. (wave_of c k).session) (same_leader c.graph p i graph step.regs.node reached ∙ sym leads)
      ∙ before p ([], refl) in
      (step.regs.node, leads, λ i reached. ap (λ b. cond b 1 0) (eq-eqb _ _ (before i reached ∙ sym (up i reached))))

  -- a node that has just joined has its start state
  pub joined_restarted : (c c' : Configuration L) (i : ℕ) → IsStep app c (Join i) c'
      → local_of app c' i ≡ app.start c.graph i
  joined_restarted c c' i (row_step step) = step.locals.here
  joined_restarted c c' i (act_step k case with is step) = absurd (cc)
