-- Nodes that mend in turn, nearer ones first: after all of them the configuration is sound.
use Rattle.std.proofs.Common.{◌≡◌, ◌≢◌, ℕ, ◌+◌, ◌<◌, ◌≤◌, inl, List, Contains, length, slice_index_or, refl, sym, ap, subst, ◌∙◌}
use Rattle.std.proofs.Common.{⊎_elim, true≢false, arith}
use Rattle.std.proofs.lemmas.Bool.{cases_eq, cases_lt}
use Rattle.app_interface.specs.Application.{App}
use Rattle.topology.specs.Graph.{Graph, IsGraph, IsNode, node_bound}
use Rattle.tree_layer.specs.declared.regs.TreeRegs.{TreeRegs}
use Rattle.tree_layer.specs.TreeRows.{IsFather}
use Rattle.tree_layer.proofs.Leaders.{linked_node}
use Rattle.tree_layer.proofs.TreePictures.{rests_where_picture}
use Rattle.wave_layer.specs.declared.regs.WaveRegs.{WaveRegs}
use Rattle.wave_layer.specs.WaveTable.{WaveHolds}
use Rattle.reset_model.specs.declared.event.Event.TheVariants.{Mend}
use Rattle.reset_model.specs.declared.step.StepRefusal.{StepRefusal}
use Rattle.reset_model.specs.Configuration.{Configuration, tree_of, wave_of}
use Rattle.reset_model.specs.MachineSteps.{IsRefused, IsStep, RowStep, act_step, row_step}
use Rattle.reset_model.specs.Sound.{IsSound, Sound}
use Rattle.reset_model.specs.Steps.{is_act}
use Rattle.reset_model.proofs.Mending.{holds_at_rest}
use Rattle.recovery.specs.FalseNodes.{IsPlaced, IsTarget, far_of, top_of}
use Rattle.recovery.specs.Mended.{AreMendedFirst, KeepsTree, MendsAt}
use Rattle.recovery.specs.Outward.{AllPlaced, IsOutward}
use Rattle.recovery.proofs.ForgetSteps.{refused_rests}
use Rattle.recovery.proofs.Leading.{same_item}
use Rattle.recovery.proofs.Outward.{item_node}
use Rattle.recovery.proofs.PlaceSteps.{same_place}
use Rattle.recovery.proofs.Places.{placed_picture}
use Rattle.recovery.proofs.Potential.{picture_leads}

-- registers fit themselves
same_holds : (m : ℕ) (own up : WaveRegs) → own ≡ up → WaveHolds m own up
same_holds m own up same =
    let P : WaveRegs → Type 0 = λ w. WaveHolds m own w in
    subst P same (record { awake = λ is. (is, refl); resetting = λ is. inl refl })

-- ---- trees that are kept

pub kept_itself : {L : Type 0} (c : Configuration L) → KeepsTree c c
kept_itself c = record { graph = refl; modulus = refl; trees = λ i node. refl }

pub kept_on : {L : Type 0} (c m c' : Configuration L) → KeepsTree c m → KeepsTree m c' → KeepsTree c c'
kept_on c m c' before after =
    let P : Graph → Type 0 = λ g. (i : ℕ) → IsNode g i → tree_of c' i ≡ tree_of m i in
    let there = subst P before.graph after.trees in
    record {
      graph = after.graph ∙ before.graph;
      modulus = after.modulus ∙ before.modulus;
      trees = λ i node. there i node ∙ before.trees i node;
    }

-- a father is one still
pub father_on : {L : Type 0} (c c' : Configuration L) → KeepsTree c c' → (i j : ℕ) → IsNode c.graph i
    → IsFather c.graph (tree_of c) i j → IsFather c'.graph (tree_of c') i j
father_on c c' keeps i j node father =
    let P : Graph → Type 0 = λ g. IsFather g (tree_of c') i j in
    subst P (sym keeps.graph)
    (record { named = ap (λ (r : TreeRegs). r.father) (keeps.trees i node) ∙ father.named; linked = father.linked })

-- ---- one node

module _ {L : Type 0} (app : App L) (c : Configuration L) (i : ℕ) (graph : IsGraph c.graph) where
  row_keeps : (c' : Configuration L) → RowStep app c (Mend i) c' → KeepsTree c c'
  row_keeps c' row = record {
    graph = row.graph;
    modulus = row.modulus;
    trees = λ k node.
        let P : ℕ → Type 0 = λ n. tree_of c' n ≡ tree_of c n in
        ⊎_elim (λ same. subst P (sym same) row.regs.trees.here) (λ other. row.regs.trees.others k node other) (cases_eq k i);
  }

  row_mends : (c' : Configuration L) → RowStep app c (Mend i) c' → MendsAt c c' i
  row_mends c' row = record {
    keeps = row_keeps c' row;
    here = λ j father.
        let apart : j ≢ i = λ same.
        graph.irreflexive i (let P : ℕ → Type 0 = λ n. IsFather c.graph (tree_of c) i n in (subst P same father).linked) in
        same_holds c.modulus (wave_of c' i) (wave_of c' j)
        (row.regs.waves.here ∙ ap (wave_of c) father.named
        ∙ sym (row.regs.waves.others j (linked_node c.graph graph i j father.linked) apart));
    others = row.regs.waves.others;
  }

  pub did_mend : (c' : Configuration L) → IsStep app c (Mend i) c' → MendsAt c c' i
  did_mend c' (row_step row) = row_mends c' row
  did_mend c' (act_step k case with same is) = absurd (true≢false (sym (ap is_act same)))

  pub needs_none : (f : StepRefusal) → IsNode c.graph i → IsRefused app c (Mend i) f
      → (c' : Configuration L) → c' ≡ c → MendsAt c c' i
  needs_none f node refused c' same =
      let P : Configuration L → Type 0 = λ k. MendsAt c k i in
      subst P (sym same) (record {
        keeps = kept_itself c;
        here = λ j father. holds_at_rest c.graph c.modulus (tree_of c) (wave_of c) i j
            (refused_rests app c (Mend i) f refl refused node refl) father;
        others = λ k at other. refl;
      })

-- ---- all nodes

module _ {L : Type 0} (c b : Configuration L) (order : List ℕ) (graph : IsGraph c.graph) (target : IsTarget c b)
    (out : IsOutward b order) (placed : AllPlaced c b c) where
  pub here_node : (k d : ℕ) → k < length order → IsNode c.graph (slice_index_or order k d)
  here_node k d low =
      let P : Graph → Type 0 = λ g. IsNode g (slice_index_or order k d) in
      subst P target.graph (item_node b order out k d low)

  -- a father is one nearer
  pub father_nearer : (i j : ℕ) → IsFather c.graph (tree_of c) i j → far_of b j + 1 ≡ far_of b i
  father_nearer i j father =
      ⊎_elim
      (λ own.
      let same : j ≡ i = sym father.named ∙ own.1 in
      let P : ℕ → Type 0 = λ n. IsFather c.graph (tree_of c) i n in
      absurd (graph.irreflexive i (subst P same father).linked))
      (λ up. let P : ℕ → Type 0 = λ n. far_of b n + 1 ≡ far_of b i in subst P father.named up.1)
      (placed.each i (graph.ends i j father.linked)).father

  pub none_mended : AreMendedFirst c c order 0
  none_mended = record { keeps = kept_itself c; first = λ k d j low. absurd (omega (arith, low)) }

  module _ (m c' : Configuration L) (n d : ℕ) (low : n < length order) (so_far : AreMendedFirst c m order n)
      (mends : MendsAt m c' (slice_index_or order n d)) where
    abbrev at : ℕ
    at = slice_index_or order n d

    there : (i : ℕ) → IsNode c.graph i → IsNode m.graph i
    there i node = let P : Graph → Type 0 = λ g. IsNode g i in subst P (sym so_far.keeps.graph) node

    at_holds : (i j : ℕ) → i ≡ at → IsFather c.graph (tree_of c) i j → WaveHolds c.modulus (wave_of c' i) (wave_of c' j)
    at_holds i j same father =
        let node = graph.ends i j father.linked in
        let moved = father_on c m so_far.keeps i j node father in
        let P : ℕ → Type 0 = λ k. IsFather m.graph (tree_of m) k j in
        let Q : ℕ → Type 0 = λ k. WaveHolds c.modulus (wave_of c' k) (wave_of c' j) in
        let R : ℕ → Type 0 = λ k. WaveHolds k (wave_of c' at) (wave_of c' j) in
        subst Q (sym same) (subst R so_far.keeps.modulus (mends.here j (subst P same moved)))

    earlier_holds : (k e j : ℕ) → k < n → slice_index_or order k e ≢ at
        → IsFather c.graph (tree_of c) (slice_index_or order k e) j
        → WaveHolds c.modulus (wave_of c' (slice_index_or order k e)) (wave_of c' j)
    earlier_holds k e j before other father =
        let x = slice_index_or order k e in
        let node = graph.ends x j father.linked in
        let up = linked_node c.graph graph x j father.linked in
        let near = father_nearer x j father in
        let rising = out.rising k n e (omega (arith, before)) low in
        let same_n = ap (far_of b) (same_item order n d e low) in
        let apart : j ≢ at = λ same. let far = ap (far_of b) same in absurd (omega (arith, near, rising, same_n, far)) in
        let P : WaveRegs → WaveRegs → Type 0 = λ own father. WaveHolds c.modulus own father in
        subst (λ w. P w (wave_of c' j)) (sym (mends.others x (there x node) other))
        (subst (P (wave_of m x)) (sym (mends.others j (there j up) apart)) (so_far.first k e j before father))

    pub one_more_mended : AreMendedFirst c c' order (n + 1)
    one_more_mended = record {
      keeps = kept_on c m c' so_far.keeps mends.keeps;
      first = λ k e j short father. ⊎_elim
          (λ before. ⊎_elim (λ same. at_holds (slice_index_or order k e) j same father)
          (λ other. earlier_holds k e j before other father) (cases_eq (slice_index_or order k e) at))
          (λ last.
          let same : k ≡ n = omega (arith, short, last) in
          let item : slice_index_or order k e ≡ at =
          ap (λ x. slice_index_or order x e) same ∙ sym (same_item order n d e low) in
          at_holds (slice_index_or order k e) j item father)
          (cases_lt k n);
    }

  module _ (c' : Configuration L) (n : ℕ) (whole : length order ≤ n) (all : AreMendedFirst c c' order n) where
    tree_right : (i : ℕ) → IsNode c.graph i → IsPlaced c.graph (top_of b) (far_of b) (tree_of c') i
    tree_right i node =
        same_place c.graph (top_of b) (far_of b) (tree_of c) (tree_of c') i (all.keeps.trees i node) (placed.each i node)

    holds : (i j : ℕ) → IsFather c.graph (tree_of c') i j → WaveHolds c.modulus (wave_of c' i) (wave_of c' j)
    holds i j father =
        let node = graph.ends i j father.linked in
        let P : Graph → Type 0 = λ g. IsNode g i in
        let found : Contains order i = out.all i (subst P (sym target.graph) node) in
        let short : found.0 < length order = found.1 in
        let was : IsFather c.graph (tree_of c) i j = record {
          named = ap (λ (r : TreeRegs). r.father) (sym (all.keeps.trees i node)) ∙ father.named;
          linked = father.linked;
        } in
        let Q : ℕ → Type 0 = λ k. IsFather c.graph (tree_of c) k j in
        let R : ℕ → Type 0 = λ k. WaveHolds c.modulus (wave_of c' k) (wave_of c' j) in
        subst R found.2 (all.first found.0 i j (omega (arith, short, whole)) (subst Q (sym found.2) was))

    pub all_mended : IsSound c'
    all_mended =
        let K = node_bound c.graph in
        let picture = placed_picture c.graph graph K (top_of b) (far_of b)
        (picture_leads c.graph graph (tree_of b) target.picture) (tree_of c') tree_right in
        let sound : Sound c.graph K c.modulus (tree_of c') (wave_of c') = record {
          tree = (rests_where_picture c.graph K (tree_of c') graph (omega arith)).1 picture;
          wave = holds;
        } in
        let P : Graph → Type 0 = λ g. Sound g (node_bound g) c.modulus (tree_of c') (wave_of c') in
        let Q : ℕ → Type 0 = λ m. Sound c'.graph (node_bound c'.graph) m (tree_of c') (wave_of c') in
        subst Q (sym all.keeps.modulus) (subst P (sym all.keeps.graph) sound)
