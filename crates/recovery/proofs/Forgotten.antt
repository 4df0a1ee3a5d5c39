-- A false node of least distance can claim or follow, and is then no longer false, or its distance has grown; and no
-- other node becomes false.
use Rattle.std.proofs.Common.{◌≡◌, ◌≢◌, ℕ, ◌+◌, ◌<◌, ◌≤◌, ◌⊎◌, inl, inr, min, List, [], ◌∷◌}
use Rattle.std.proofs.Common.{refl, sym, ap, subst, ◌∙◌, ⊎_elim, arith, true≢false}
use Rattle.std.proofs.lemmas.Bool.{cases_lt, cases_eq, cases_Bool}
use Rattle.topology.specs.Graph.{Graph, IsGraph, IsNode, AreLinked, are_linked, IsWalk, Changes}
use Rattle.tree_layer.specs.declared.regs.TreeRegs.{TreeRegs}
use Rattle.tree_layer.specs.TreeRows.{Claims, Follows, claim_self, claim_stray, claim_far, follow_root, follow_dist}
use Rattle.tree_layer.specs.TreeRows.{claimed, followed}
use Rattle.tree_layer.proofs.Leaders.{linked_node, walked_node, linked_leaders}
use Rattle.recovery.specs.FalseNodes.{AreLed, IsFalse, over, unled, near}

pub same_regs : (a b d i : ℕ) → a ≡ i → b ≡ i → d ≡ 0
    → (let r : TreeRegs = record { root = a; father = b; dist = d } in r ≡ claimed i)
same_regs a b d i p q r =
    ap (λ x. let s : TreeRegs = record { root = x; father = b; dist = d } in s) p
    ∙ ap (λ x. let s : TreeRegs = record { root = i; father = x; dist = d } in s) q
    ∙ ap (λ x. let s : TreeRegs = record { root = i; father = i; dist = x } in s) r

module _ (g : Graph) (graph : IsGraph g) (K : ℕ) (top far : ℕ → ℕ) (led : AreLed g K top far) where
  pub own_top : (i : ℕ) → IsNode g i → i ≤ top i
  own_top i node = (led.leads i node).greatest i ([], refl)

  pub top_node : (i : ℕ) → IsNode g i → IsNode g (top i)
  top_node i node = let r = (led.leads i node).reached in walked_node g graph r.0 i (top i) node r.1

  -- the leader of a leader is itself
  pub top_top : (i : ℕ) → IsNode g i → top (top i) ≡ top i
  top_top i node =
      along ((led.leads i node).reached.0) i node ((led.leads i node).reached.1)
    where
      along : (cs : List ℕ) (j : ℕ) → IsNode g j → IsWalk g j cs (top i) → top (top i) ≡ top j
      along [] j at walk = ap top (sym walk)
      along (c ∷ cs) j at walk =
          along cs c (linked_node g graph j c walk.0) walk.1
          ∙ sym (linked_leaders g graph walk.0 (led.leads j at) (led.leads c (linked_node g graph j c walk.0)))

  -- a leader is at distance 0
  pub at_top : (i : ℕ) → IsNode g i → top i ≡ i → far i ≡ 0
  at_top i node same =
      let low = (led.dist i node).least [] (sym same) in omega (arith, low)

  pub linked_tops : (i j : ℕ) → AreLinked g i j → top i ≡ top j
  linked_tops i j linked =
      linked_leaders g graph linked (led.leads i (graph.ends i j linked)) (led.leads j (linked_node g graph i j linked))

  pub linked_far : (i j : ℕ) → AreLinked g i j → far i ≤ far j + 1
  linked_far i j linked =
      let on = (led.dist j (linked_node g graph i j linked)).walk in
      let long = (led.dist i (graph.ends i j linked)).least (j ∷ on.0)
      (linked, subst (λ k. IsWalk g j on.0 k) (sym (linked_tops i j linked)) on.1) in
      omega (arith, long, on.2)

  -- a claimed node isn't false
  pub claimed_true : (t : ℕ → TreeRegs) (i : ℕ) → IsNode g i → t i ≡ claimed i → IsFalse top far t i → ⊥
  claimed_true t i node is (over less) =
      let root = ap (λ r. r.root) is in absurd (omega (arith, less, root, own_top i node))
  claimed_true t i node is (unled root not) =
      let same : i ≡ top i = sym (ap (λ r. r.root) is) ∙ root in
      let P : ℕ → Type 0 = λ k. t k ≡ claimed k in not (subst P same is)
  claimed_true t i node is (near root less) =
      let same : top i ≡ i = sym root ∙ ap (λ r. r.root) is in
      absurd (omega (arith, less, at_top i node same))

  module _ (t : ℕ → TreeRegs) (i : ℕ) (node : IsNode g i) (not_true : IsFalse top far t i)
      (least : (j : ℕ) → IsNode g j → IsFalse top far t j → (t i).dist ≤ (t j).dist) where
    -- with the father's registers one behind the father would be false
    father_false : (f : ℕ) → AreLinked g i f → (t i).root ≡ (t f).root → (t i).dist ≡ (t f).dist + 1
        → IsFalse top far t i → IsFalse top far t f
    father_false f linked root dist (over less) =
        let same = linked_tops i f linked in over (omega (arith, less, root, same))
    father_false f linked root dist (unled own not) =
        let same = linked_tops i f linked in
        let P : ℕ → Type 0 = λ k. t k ≢ claimed k in unled (sym root ∙ own ∙ same) (subst P same not)
    father_false f linked root dist (near own less) =
        let same = linked_tops i f linked in
        let far_f = linked_far i f linked in near (sym root ∙ own ∙ same) (omega (arith, less, dist, far_f))

    -- it can claim or follow
    pub goes_on : Claims g K t i ⊎ Follows g K t i
    goes_on =
        let f = (t i).father in
        ⊎_elim
        (λ own. ⊎_elim
        (λ root. ⊎_elim
        (λ dist. absurd (claimed_true t i node (same_regs (t i).root (t i).father (t i).dist i root own dist) not_true))
        (λ dist. inl (claim_self own (inr dist)))
        (cases_eq (t i).dist 0))
        (λ root. inl (claim_self own (inl root)))
        (cases_eq (t i).root i))
        (λ other. ⊎_elim
        (λ linked. ⊎_elim
        (λ low. ⊎_elim
        (λ root. ⊎_elim
        (λ dist. absurd (omega (
          arith,
          dist,
          least f (linked_node g graph i f linked) (father_false f linked root dist not_true),
        )))
        (λ dist. inr (follow_dist f (record { named = refl; linked = linked }) low root dist))
        (cases_eq (t i).dist ((t f).dist + 1)))
        (λ root. inr (follow_root f (record { named = refl; linked = linked }) low root))
        (cases_eq (t i).root (t f).root))
        (λ high. inl (claim_far high))
        (cases_lt (t i).dist K))
        (λ apart. inl (claim_stray other (λ linked. true≢false (sym linked ∙ apart))))
        (cases_Bool (are_linked g i f)))
        (cases_eq f i)

    module _ (t' : ℕ → TreeRegs) (x : TreeRegs) (changes : Changes g t i x t') where
      -- a leader that is not its own root afterwards wasn't before
      top_before : (j : ℕ) → IsNode g j → t' (top j) ≢ claimed (top j) → t (top j) ≢ claimed (top j)
      top_before j at not =
          ⊎_elim
          (λ same. λ is.
          let P : ℕ → Type 0 = λ k. t k ≡ claimed k in claimed_true t i node (subst P same is) not_true)
          (λ other. λ is. not (changes.others (top j) (top_node j at) other ∙ is))
          (cases_eq (top j) i)

      -- no other node becomes false
      pub others_true : (j : ℕ) → IsNode g j → j ≢ i → IsFalse top far t' j → IsFalse top far t j
      others_true j at other (over less) =
          let same = ap (λ r. r.root) (changes.others j at other) in over (omega (arith, less, same))
      others_true j at other (unled root not) =
          unled (sym (ap (λ r. r.root) (changes.others j at other)) ∙ root) (top_before j at not)
      others_true j at other (near root less) =
          let same = ap (λ r. r.dist) (changes.others j at other) in
          near (sym (ap (λ r. r.root) (changes.others j at other)) ∙ root) (omega (arith, less, same))

      -- where it claims it is no longer false
      pub claim_ends : x ≡ claimed i → IsFalse top far t' i → ⊥
      claim_ends is = claimed_true t' i node (changes.here ∙ is)

      -- where it follows, and is false even then, so is its father
      father_before : (f : ℕ) → AreLinked g i f → x ≡ followed K f (t f) → IsFalse top far t' i → IsFalse top far t f
      father_before f linked is (over less) =
          let root = ap (λ r. r.root) (changes.here ∙ is) in
          let same = linked_tops i f linked in over (omega (arith, less, root, same))
      father_before f linked is (unled own not) =
          let root = ap (λ r. r.root) (changes.here ∙ is) in
          let same = linked_tops i f linked in
          let P : ℕ → Type 0 = λ k. t k ≢ claimed k in
          unled (sym root ∙ own ∙ same) (subst P same (top_before i node not))
      father_before f linked is (near own less) =
          let root = ap (λ r. r.root) (changes.here ∙ is) in
          let dist : (t' i).dist ≡ min ((t f).dist + 1) K = ap (λ r. r.dist) (changes.here ∙ is) in
          let same = linked_tops i f linked in
          let far_f = linked_far i f linked in
          let short = led.short i node in
          near (sym root ∙ own ∙ same) (omega (arith, less, dist, far_f, short))

      -- where it follows it is no longer false, or its distance has grown
      pub follow_grows : (f : ℕ) → AreLinked g i f → (t i).dist < K → x ≡ followed K f (t f) → IsFalse top far t' i
          → (t i).dist < (t' i).dist
      follow_grows f linked low is still =
          let dist : (t' i).dist ≡ min ((t f).dist + 1) K = ap (λ r. r.dist) (changes.here ∙ is) in
          let more = least f (linked_node g graph i f linked) (father_before f linked is still) in
          omega (arith, low, dist, more)
