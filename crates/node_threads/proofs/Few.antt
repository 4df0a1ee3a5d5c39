-- Ids that ascend, each among some numbers: they are at most as many, and of as many each is there once.
use Rattle.std.proofs.Common.{◌≡◌, ◌≢◌, ℕ, suc, ◌+◌, ◌<◌, ◌≤◌, ◌==◌, ◌&&◌, ◌||◌, ◌⊎◌, inl, inr, Bool, true, false, not}
use Rattle.std.proofs.Common.{Contains, List, [], ◌∷◌, get_or, length, filter, subst, sym, ap, ◌∙◌, refl, arith}
use Rattle.std.specs.List.{list_any}
use Rattle.std.specs.List.Sorted.{IsStrictlyIncreasing}
use Rattle.std.proofs.lemmas.Bool.{eq-eqb, false≢true}
use Rattle.std.proofs.lemmas.Bool.Decides.{eqb_tells}
use Rattle.std.proofs.lemmas.List.{get_or_default}
use Rattle.std.proofs.lemmas.List.Filters.{length-filter_both}
use Rattle.topology.specs.Graph.{has}
use Rattle.topology.proofs.Ascending.{rises}
use Rattle.topology.proofs.Membership.{Contains-has, has-filter}
use Rattle.node_threads.proofs.Telling.{other_number}

below_all : (x : ℕ) (xs : List ℕ) → IsStrictlyIncreasing (x ∷ xs) → (z : ℕ) → Contains xs z → x < z
below_all x xs up z (k, low, at) =
    subst (λ n. x < n) (sym (get_or_default xs k z 0 low) ∙ at) (rises (x ∷ xs) up 0 (suc k) (omega arith) (omega (
      arith,
      low,
    )))

rest_up : (x : ℕ) (xs : List ℕ) → IsStrictlyIncreasing (x ∷ xs) → IsStrictlyIncreasing xs
rest_up x xs up k low =
    let e : suc k + 1 ≡ suc (k + 1) = omega arith in
    subst (λ n. get_or xs k 0 < get_or (x ∷ xs) n 0) e (up (suc k) (omega (arith, low)))

passes_here : (p : ℕ → Bool) (x : ℕ) (xs : List ℕ) (b : Bool) → p x ≡ b
    → (list_any p xs ≡ true → 1 ≤ length (filter p xs)) → list_any p (x ∷ xs) ≡ true → 1 ≤ length (filter p (x ∷ xs))
passes_here p x xs true is rest some = rw is (omega arith)
passes_here p x xs false is rest some = rw is (rest (rw is at some))

some_passes : (p : ℕ → Bool) (xs : List ℕ) → list_any p xs ≡ true → 1 ≤ length (filter p xs)
some_passes p [] some = absurd (cc)
some_passes p (x ∷ xs) some = passes_here p x xs (p x) refl (some_passes p xs) some

or_right : (a b : Bool) → b ≡ true → (a || b) ≡ true
or_right true b is = refl
or_right false b is = is

and_both : (a b : Bool) → a ≡ true → b ≡ true → (a && b) ≡ true
and_both true b is also = also
and_both false b is also = absurd (cc)

-- ids that ascend, each among some numbers, are at most as many
pub few : (ids ns : List ℕ) → IsStrictlyIncreasing ids → ((i : ℕ) → has ids i ≡ true → has ns i ≡ true)
    → length ids ≤ length ns
few [] ns up within = omega arith
few (i ∷ ids) ns up within =
    let same = λ (k : ℕ). k == i in
    let others = λ (k : ℕ). not (k == i) in
    let here : list_any same ns ≡ true = within i (ap (λ b. b || has ids i) (own i)) in
    let rest : length ids ≤ length (filter others ns) = few ids (filter others ns) (rest_up i ids up) (λ j there.
    has-filter others ns j ∙ and_both (others j) (has ns j) (ap not (other_number j i (below_all i ids up j
    (Contains-has ids j there)))) (within j (or_right (i == j) (has ids j) there))) in
    omega (
      arith,
      rest,
      some_passes same ns here,
      length-filter_both same others (λ k. refl) ns,
    )
  where
    own : (i : ℕ) → (i == i) ≡ true
    own i = eq-eqb i i refl

-- ---- filters

module _ {X : Type 0} (p : X → Bool) (x : X) (xs : List X) where
  pub filter_yes : p x ≡ true → filter p (x ∷ xs) ≡ x ∷ filter p xs
  filter_yes is = rw is refl

  pub filter_no : p x ≡ false → filter p (x ∷ xs) ≡ filter p xs
  filter_no is = rw is refl

module _ {X : Type 0} (p q : X → Bool) where
  swap_one : (x : X) (xs : List X) (a b : Bool) → p x ≡ a → q x ≡ b
      → filter p (filter q xs) ≡ filter q (filter p xs) → filter p (filter q (x ∷ xs)) ≡ filter q (filter p (x ∷ xs))
  swap_one x xs true true pa qb rest =
      ap (filter p) (filter_yes q x xs qb) ∙ (filter_yes p x (filter q xs) pa ∙ (ap (λ ys. x ∷ ys) rest
      ∙ sym (ap (filter q) (filter_yes p x xs pa) ∙ filter_yes q x (filter p xs) qb)))
  swap_one x xs true false pa qb rest =
      ap (filter p) (filter_no q x xs qb) ∙ (rest
      ∙ sym (ap (filter q) (filter_yes p x xs pa) ∙ filter_no q x (filter p xs) qb))
  swap_one x xs false true pa qb rest =
      ap (filter p) (filter_yes q x xs qb) ∙ (filter_no p x (filter q xs) pa ∙ (rest
      ∙ sym (ap (filter q) (filter_no p x xs pa))))
  swap_one x xs false false pa qb rest =
      ap (filter p) (filter_no q x xs qb) ∙ (rest ∙ sym (ap (filter q) (filter_no p x xs pa)))

  pub filter_swap : (xs : List X) → filter p (filter q xs) ≡ filter q (filter p xs)
  filter_swap [] = refl
  filter_swap (x ∷ xs) = swap_one x xs (p x) (q x) refl refl (filter_swap xs)

-- ---- each node once

same_number : (a b : ℕ) → (a == b) ≡ true → a ≡ b
same_number a b is = at (eqb_tells a b)
  where
    at : (((a == b) ≡ true) × (a ≡ b)) ⊎ (((a == b) ≡ false) × (a ≢ b)) → a ≡ b
    at (inl same) = same.1
    at (inr other) = absurd (false≢true (sym other.0 ∙ is))

module _ (i j : ℕ) (apart : (j == i) ≡ false) where
  through_one : (k : ℕ) (ks : List ℕ) (a b : Bool) → (k == j) ≡ a → (k == i) ≡ b
      → filter (λ m. m == i) (filter (λ m. not (m == j)) ks) ≡ filter (λ m. m == i) ks
      → filter (λ m. m == i) (filter (λ m. not (m == j)) (k ∷ ks)) ≡ filter (λ m. m == i) (k ∷ ks)
  through_one k ks true b kj ki rest =
      let no : (k == i) ≡ false = ap (λ m. m == i) (same_number k j kj) ∙ apart in
      ap (filter (λ m. m == i)) (filter_no (λ m. not (m == j)) k ks (ap not kj))
      ∙ (rest ∙ sym (filter_no (λ m. m == i) k ks no))
  through_one k ks false true kj ki rest =
      ap (filter (λ m. m == i)) (filter_yes (λ m. not (m == j)) k ks (ap not kj))
      ∙ (filter_yes (λ m. m == i) k (filter (λ m. not (m == j)) ks) ki
      ∙ (ap (λ ys. k ∷ ys) rest ∙ sym (filter_yes (λ m. m == i) k ks ki)))
  through_one k ks false false kj ki rest =
      ap (filter (λ m. m == i)) (filter_yes (λ m. not (m == j)) k ks (ap not kj))
      ∙ (filter_no (λ m. m == i) k (filter (λ m. not (m == j)) ks) ki
      ∙ (rest ∙ sym (filter_no (λ m. m == i) k ks ki)))

  filter_through : (ks : List ℕ) → filter (λ m. m == i) (filter (λ m. not (m == j)) ks) ≡ filter (λ m. m == i) ks
  filter_through [] = refl
  filter_through (k ∷ ks) = through_one k ks (k == j) (k == i) refl refl (filter_through ks)

-- ids that ascend, each among as many numbers, are there once each
pub one_each : (ids ns : List ℕ) → IsStrictlyIncreasing ids → ((i : ℕ) → has ids i ≡ true → has ns i ≡ true)
    → length ns ≡ length ids → (i : ℕ) → has ids i ≡ true → length (filter (λ k. k == i) ns) ≡ 1
one_each [] ns up within same i there = absurd (cc)
one_each (j ∷ ids) ns up within same i there = at (j == i) refl (one_each ids (filter others ns) (rest_up j ids up) rest)
  where
    mine : ℕ → Bool
    mine k = k == j

    others : ℕ → Bool
    others k = not (k == j)

    rest : (k : ℕ) → has ids k ≡ true → has (filter others ns) k ≡ true
    rest k has_k =
        has-filter others ns k ∙ and_both (others k) (has ns k) (ap not (other_number k j (below_all j ids up k
        (Contains-has ids k has_k)))) (within k (or_right (j == k) (has ids k) has_k))

    head : list_any mine ns ≡ true
    head = within j (ap (λ b. b || has ids j) (eq-eqb j j refl))

    split : length (filter mine ns) + length (filter others ns) ≡ length ns
    split = length-filter_both mine others (λ k. refl) ns

    at : (b : Bool) → (j == i) ≡ b
        → (length (filter others ns) ≡ length ids → (k : ℕ) → has ids k ≡ true
        → length (filter (λ m. m == k) (filter others ns)) ≡ 1)
        → length (filter (λ k. k == i) ns) ≡ 1
    at true here later =
        subst (λ k. length (filter (λ m. m == k) ns) ≡ 1) (same_number j i here) (omega (
          arith,
          split,
          few ids (filter others ns) (rest_up j ids up) rest,
          some_passes mine ns head,
          same,
        ))
    at false apart later =
        ap length (sym (filter_through i j apart ns))
        ∙ later (omega (
          arith,
          split,
          few ids (filter others ns) (rest_up j ids up) rest,
          some_passes mine ns head,
          same,
        )) i (sym (ap (λ b. b || has ids i) apart) ∙ there)
