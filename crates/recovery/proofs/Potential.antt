-- Each step at a false node of least distance lowers the potential.
use Rattle.std.proofs.Common.{◌≡◌, ◌≢◌, ℕ, suc, ◌+◌, ◌-◌, ◌*◌, ◌<◌, ◌≤◌, ◌⊎◌, Bool, true, false, cond}
use Rattle.std.proofs.Common.{List, [], ◌∷◌, length, refl, sym, ap, subst, ◌∙◌, ⊎_elim, arith, true≢false}
use Rattle.std.specs.List.{sum_by}
use Rattle.std.proofs.lemmas.Bool.{cases_lt, cases_eq, cases_Bool}
use Rattle.std.proofs.lemmas.List.Sums.{sum_by-cons}
use Rattle.topology.specs.Graph.{Graph, IsGraph, IsNode, AreLinked, Changes, node_bound}
use Rattle.tree_layer.specs.declared.regs.TreeRegs.{TreeRegs}
use Rattle.tree_layer.specs.TreeRows.{Claims, Follows, claimed, followed}
use Rattle.tree_layer.specs.TreePicture.{TreePicture}
use Rattle.tree_layer.proofs.TreePictures.{rests_where_picture}
use Rattle.tree_layer.specs.TreeRows.{claim_far}
use Rattle.reset_model.proofs.Sums.{sum_less}
use Rattle.recovery.specs.FalseNodes.{AreLed, IsFalse, is_claimed, is_false, near, over, potential, unled, weight}
use Rattle.recovery.proofs.Forgotten.{claim_ends, follow_grows, goes_on, others_true, same_regs}

-- ---- the test

claimed_is : (r : TreeRegs) (k : ℕ) → is_claimed r k ≡ true → r ≡ claimed k
claimed_is r k is =
    ⊎_elim (λ a. ⊎_elim (λ b. ⊎_elim (λ d. same_regs r.root r.father r.dist k a b d)
    (λ d. absurd (grind (arith, is, d))) (cases_eq r.dist 0))
    (λ b. absurd (grind (arith, is, b))) (cases_eq r.father k))
    (λ a. absurd (grind (arith, is, a))) (cases_eq r.root k)

is_claimed-own : (k : ℕ) → is_claimed (claimed k) k ≡ true
is_claimed-own k = grind arith

module _ (top far : ℕ → ℕ) (t : ℕ → TreeRegs) (i : ℕ) where
  pub is_from_test : is_false top far t i ≡ true → IsFalse top far t i
  is_from_test is =
      ⊎_elim over
      (λ most. ⊎_elim
      (λ root. ⊎_elim (near root)
      (λ long. unled root (λ own. absurd (
      let one : is_claimed (t (top i)) (top i) ≡ true =
      ap (λ r. is_claimed r (top i)) own ∙ is_claimed-own (top i) in
      grind (arith, is, most, long, one))))
      (cases_lt (t i).dist (far i)))
      (λ other. absurd (grind (arith, is, most, other)))
      (cases_eq (t i).root (top i)))
      (cases_lt (top i) (t i).root)

  pub test_from_is : IsFalse top far t i → is_false top far t i ≡ true
  test_from_is (over less) = grind (arith, less)
  test_from_is (unled root not_own) =
      let none : is_claimed (t (top i)) (top i) ≡ false = ⊎_elim
      (λ own. absurd (not_own (claimed_is (t (top i)) (top i) own))) (λ no_one. no_one)
      (cases_Bool (is_claimed (t (top i)) (top i))) in
      grind (arith, root, none)
  test_from_is (near root less) = grind (arith, root, less)

-- ---- weights

weighs : (b : Bool) (n : ℕ) → b ≡ true → cond b n 0 ≡ n
weighs true n is = refl
weighs false n is = absurd (true≢false (sym is))

weighs_none : (b : Bool) (n : ℕ) → b ≡ false → cond b n 0 ≡ 0
weighs_none true n is = absurd (true≢false is)
weighs_none false n is = refl

module _ (g : Graph) (graph : IsGraph g) (K : ℕ) (top far : ℕ → ℕ) (led : AreLed g K top far)
    (t : ℕ → TreeRegs) (i : ℕ) (node : IsNode g i) (is : is_false top far t i ≡ true)
    (least : (j : ℕ) → IsNode g j → is_false top far t j ≡ true → (t i).dist ≤ (t j).dist)
  where
    own : IsFalse top far t i
    own = is_from_test top far t i is

    lowest : (j : ℕ) → IsNode g j → IsFalse top far t j → (t i).dist ≤ (t j).dist
    lowest j at h = least j at (test_from_is top far t j h)

    pub steps_on : Claims g K t i ⊎ Follows g K t i
    steps_on = goes_on g graph K top far led t i node own lowest

    module _ (t' : ℕ → TreeRegs) (x : TreeRegs) (changes : Changes g t i x t') where
      elsewhere : (j : ℕ) → IsNode g j → j ≢ i → weight K top far t' j ≤ weight K top far t j
      elsewhere j at other =
          ⊎_elim
          (λ still.
          let before = test_from_is top far t j (others_true g graph K top far led t i node own lowest t' x changes j at other
          (is_from_test top far t' j still)) in
          let dist = ap (λ r. r.dist) (changes.others j at other) in
          let new = weighs (is_false top far t' j) (suc (K - (t' j).dist)) still in
          let old = weighs (is_false top far t j) (suc (K - (t j).dist)) before in
          omega (arith, new, old, dist))
          (λ ended. let new = weighs_none (is_false top far t' j) (suc (K - (t' j).dist)) ended in omega (arith, new))
          (cases_Bool (is_false top far t' j))

      falls : weight K top far t' i < weight K top far t i → potential g K top far t' < potential g K top far t
      falls less =
          sum_less (weight K top far t) (weight K top far t') g.nodes
          (λ j at. ⊎_elim
          (λ same. let W : ℕ → Type 0 = λ k. weight K top far t' k ≤ weight K top far t k in
          subst W (sym same) (omega (arith, less)))
          (λ other. elsewhere j at other) (cases_eq j i))
          i node less

      here : ℕ
      here = weight K top far t i

      pub claim_lowers : x ≡ claimed i → potential g K top far t' < potential g K top far t
      claim_lowers same =
          let ended : is_false top far t' i ≡ false = ⊎_elim
          (λ still. absurd (claim_ends g graph K top far led t i node own lowest t' x changes same
          (is_from_test top far t' i still))) (λ no_one. no_one) (cases_Bool (is_false top far t' i)) in
          let new = weighs_none (is_false top far t' i) (suc (K - (t' i).dist)) ended in
          let old = weighs (is_false top far t i) (suc (K - (t i).dist)) is in
          falls (omega (arith, new, old))

      pub follow_lowers : (f : ℕ) → AreLinked g i f → (t i).dist < K → x ≡ followed K f (t f)
          → potential g K top far t' < potential g K top far t
      follow_lowers f linked low same =
          let old = weighs (is_false top far t i) (suc (K - (t i).dist)) is in
          ⊎_elim
          (λ still.
          let grew = follow_grows g graph K top far led t i node own lowest t' x changes f linked low same
          (is_from_test top far t' i still) in
          let new = weighs (is_false top far t' i) (suc (K - (t' i).dist)) still in
          falls (omega (arith, new, old, grew, low)))
          (λ ended.
          let new = weighs_none (is_false top far t' i) (suc (K - (t' i).dist)) ended in
          falls (omega (arith, new, old)))
          (cases_Bool (is_false top far t' i))

-- a tree of shortest ways leads
pub picture_leads : (g : Graph) → IsGraph g → (t : ℕ → TreeRegs) → TreePicture g t
    → AreLed g (node_bound g) (λ i. (t i).root) (λ i. (t i).dist)
picture_leads g graph t picture = record {
  leads = picture.root;
  dist = picture.dist;
  short = λ i node. ⊎_elim (λ low. low)
      (λ high. absurd (((rests_where_picture g (node_bound g) t graph (omega arith)).1 picture i node).claims (claim_far high)))
      (cases_lt (t i).dist (node_bound g));
}

-- ---- the bound

weight_most : (b : Bool) (K d : ℕ) → cond b (suc (K - d)) 0 ≤ K + 1
weight_most true K d = omega arith
weight_most false K d = omega arith

sum_most : (f : ℕ → ℕ) (n : ℕ) → ((k : ℕ) → f k ≤ n) → (xs : List ℕ) → sum_by f xs ≤ length xs * n
sum_most f n most [] = omega arith
sum_most f n most (x ∷ xs) =
    let more : length (x ∷ xs) * n ≡ n + length xs * n = grind arith in
    omega (arith, sum_by-cons f x xs, most x, sum_most f n most xs, more)

-- each node takes at most K + 1 steps
pub potential_most : (g : Graph) (K : ℕ) (top far : ℕ → ℕ) (t : ℕ → TreeRegs)
    → potential g K top far t ≤ length g.nodes * (K + 1)
potential_most g K top far t =
    sum_most (weight K top far t) (K + 1) (λ k. weight_most (is_false top far t k) K (t k).dist) g.nodes
