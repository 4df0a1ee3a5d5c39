-- Strictly ascending lists of numbers, and what a binary search finds in them.
use Rattle.std.proofs.Common.{◌≡◌, ℕ, zero, suc, ◌+◌, ◌-◌, ◌<◌, ◌≤◌, ◌≢◌, Bool, true, false, cond, ◌||◌, eqb, ltb, List}
use Rattle.std.proofs.Common.{[], ◌∷◌, map, length, get_or, filter, Contains, Option, Result, Ok, Err, Some, None}
use Rattle.std.proofs.Common.{is_ok, is_some, position, true≢false, MatchResult, sym, refl, ap, ap₂, subst, ◌∙◌, arith}
use Rattle.std.proofs.Common.{nat_cmp, eqb-true, eq-eqb, ne_eqb, lt-ltb, le-ltb, ⊎_elim}
use Rattle.std.specs.List.{list_any, position_or_len}
use Rattle.std.specs.List.Sorted.{IsStrictlyIncreasing, IsBinarySearchResult}
use Rattle.std.specs.Result.{result_ok}
use Rattle.std.proofs.lemmas.List.Sums.{position_or_len_is, fails_before_first}
use Rattle.std.proofs.lemmas.List.Sorted.{searched}
use Rattle.std.proofs.lemmas.List.Folds.{list_any-from_Any}
use Rattle.std.proofs.lemmas.List.Quantifiers.{position-Some}
use Rattle.std.proofs.lemmas.List.{get_or_default}
use Rattle.std.proofs.lemmas.Bool.{cases_order, cases_Bool, false_from_ne_true, cases_eq, cases_lt, ltb-false}
use Rattle.std.proofs.lemmas.Option.{none-some}
use native.Mathlib.Numerals.{unary_clauses}

-- each number is below each later one
rises_by : (xs : List ℕ) → IsStrictlyIncreasing xs → (i d : ℕ) → i + d + 1 < length xs
    → get_or xs i 0 < get_or xs (i + d + 1) 0
rises_by xs up i zero h =
    let e : i + 0 + 1 ≡ i + 1 = omega arith in
    subst (λ k. get_or xs i 0 < get_or xs k 0) (sym e) (up i (omega arith))
rises_by xs up i (suc d) h =
    let e : i + suc d + 1 ≡ i + d + 1 + 1 = omega arith in
    subst (λ k. get_or xs i 0 < get_or xs k 0) (sym e)
    (omega (arith, rises_by xs up i d (omega arith), up (i + d + 1) (omega arith)))

pub rises : (xs : List ℕ) → IsStrictlyIncreasing xs → (i j : ℕ) → i < j → j < length xs → get_or xs i 0 < get_or xs j 0
rises xs up i j less within =
    let e : i + (j - i - 1) + 1 ≡ j = omega arith in
    subst (λ k. get_or xs i 0 < get_or xs k 0) e (rises_by xs up i (j - i - 1) (omega arith))

pub rises_weakly : (xs : List ℕ) → IsStrictlyIncreasing xs → (i j : ℕ) → i ≤ j → j < length xs
    → get_or xs i 0 ≤ get_or xs j 0
rises_weakly xs up i j le within =
    ⊎_elim (λ e. subst (λ k. get_or xs i 0 ≤ get_or xs k 0) e (omega arith))
    (λ n. omega (arith, rises xs up i j (omega arith) within)) (cases_eq i j)

-- a number stands at one index
pub index_once : (xs : List ℕ) → IsStrictlyIncreasing xs → (i j : ℕ) → i < length xs → j < length xs
    → get_or xs i 0 ≡ get_or xs j 0 → i ≡ j
index_once xs up i j i_in j_in e =
    ⊎_elim (λ same. same)
    (λ other. ⊎_elim (λ lt. absurd (omega (arith, rises xs up i j lt j_in)))
    (λ gt. absurd (omega (arith, rises xs up j i gt i_in))) other)
    (cases_order i j)

-- a member stands at an index, and what stands at an index is a member
pub index_of_member : (xs : List ℕ) (x : ℕ) → list_any (λ y. eqb y x) xs ≡ true
    → (k : ℕ) × (k < length xs) × (get_or xs k 0 ≡ x)
index_of_member [] x e = absurd (cc)
index_of_member (y ∷ ys) x e =
    elim (eqb y x)
    as (λ b. eqb y x ≡ b → (b || list_any (λ y. eqb y x) ys) ≡ true
    → (k : ℕ) × (k < length (y ∷ ys)) × (get_or (y ∷ ys) k 0 ≡ x)) [
      | true ↦ λ same _. (0, omega arith, eqb-true y x same)
      | false ↦ λ _ rest. let r = index_of_member ys x rest in (suc r.0, omega (arith, r.1), r.2)
    ] refl e

pub member_at : (xs : List ℕ) (k : ℕ) → k < length xs → list_any (λ y. eqb y (get_or xs k 0)) xs ≡ true
member_at xs k within =
    list_any-from_Any (λ y. eqb y (get_or xs k 0)) xs
    (k, get_or xs k 0, within, get_or_default xs k _ 0 within, eq-eqb _ _ refl)

-- a number at no index is no member
pub no_member : (xs : List ℕ) (x : ℕ) → ((k : ℕ) → k < length xs → get_or xs k 0 ≢ x)
    → list_any (λ y. eqb y x) xs ≡ false
no_member xs x none =
    false_from_ne_true _ (λ e. let at = index_of_member xs x e in none at.0 at.1 at.2)

pub contains_from_test : (xs : List ℕ) (x : ℕ) → list_any (λ y. eqb y x) xs ≡ true → Contains xs x
contains_from_test xs x e = let at = index_of_member xs x e in (at.0, at.1, get_or_default xs at.0 x 0 at.1 ∙ at.2)

pub test_from_contains : (xs : List ℕ) (x : ℕ) → Contains xs x → list_any (λ y. eqb y x) xs ≡ true
test_from_contains xs x at = list_any-from_Any (λ y. eqb y x) xs (at.0, x, at.1, at.2, eq-eqb x x refl)

-- a test with no first index passes at no index
pub no_index : (p : ℕ → Bool) (xs : List ℕ) → None ≡ position p xs → (k : ℕ) → k < length xs → p (get_or xs k 0) ≡ false
no_index p xs none k within =
    fails_before_first p xs k 0
    (⊎_elim
    (λ (e : ltb (position_or_len p xs) (length xs) ≡ true). absurd
    (none-some (position_or_len p xs) (none ∙ ap (λ b. cond b (Some (position_or_len p xs)) None) e)))
    (λ (e : ltb (position_or_len p xs) (length xs) ≡ false). omega
    (arith, ltb-false (position_or_len p xs) (length xs) e))
    (cases_Bool (ltb (position_or_len p xs) (length xs))))

-- a number is a member where it has an index
pub member_by_index : (xs : List ℕ) (x : ℕ) (o : Option ℕ) → o ≡ position (λ i. eqb i x) xs
    → is_some o ≡ list_any (λ y. eqb y x) xs
member_by_index xs x (Some k) at =
    let found = position-Some (λ i. eqb i x) xs k 0 (sym at) in
    sym (subst (λ z. list_any (λ y. eqb y z) xs ≡ true) (eqb-true (get_or xs k 0) x found.1) (member_at xs k found.0))
member_by_index xs x None at =
    sym (no_member xs x
    (λ k low e. absurd (true≢false (sym (eq-eqb (get_or xs k 0) x e) ∙ no_index (λ i. eqb i x) xs at k low))))

-- and only there
pub no_member_no_index : (xs : List ℕ) (x : ℕ) → list_any (λ y. eqb y x) xs ≡ false → position (λ i. eqb i x) xs ≡ None
no_member_no_index xs x absent = cases (position (λ i. eqb i x) xs) refl
  where
    cases : (o : Option ℕ) → position (λ i. eqb i x) xs ≡ o → position (λ i. eqb i x) xs ≡ None
    cases None at = at
    cases (Some k) at = absurd (true≢false (member_by_index xs x (Some k) (sym at) ∙ absent))

-- ---- binary search

module _ (xs : List ℕ) (x : ℕ) (up : IsStrictlyIncreasing xs) where
  -- what a search answers: the index of x, or the place between the lesser and the greater
  abbrev pub Finds : Result ℕ ℕ → Type 0
  Finds r =
      MatchResult r (λ i. (i < length xs) × (get_or xs i 0 ≡ x))
      (λ i. (i ≤ length xs) × ((k : ℕ) → k < i → get_or xs k 0 < x)
      × ((k : ℕ) → i ≤ k → k < length xs → x < get_or xs k 0))

  pub finds : (r : Result ℕ ℕ) → IsBinarySearchResult (λ y. nat_cmp y x) xs r → Finds r
  finds r h = searched xs x r h (rises_weakly xs up)

  index_of_found : (r : Result ℕ ℕ) → Finds r → result_ok r ≡ position (λ i. eqb i x) xs
  index_of_found (Ok i) h =
      let at : position_or_len (λ i. eqb i x) xs ≡ i =
      position_or_len_is (λ i. eqb i x) xs i 0 (omega (arith, h.0))
      (λ k lt. ne_eqb _ _ (λ e. absurd (omega (arith, rises xs up k i lt h.0, h.1, e)))) (λ _. eq-eqb _ _ h.1) in
      rw at (rw (lt-ltb i (length xs) h.0) refl)
  index_of_found (Err i) h =
      let at : position_or_len (λ i. eqb i x) xs ≡ length xs =
      position_or_len_is (λ i. eqb i x) xs (length xs) 0 (omega arith)
      (λ k lt. ne_eqb _ _
      (λ e. ⊎_elim (λ low. absurd (omega (arith, h.1 k low, e))) (λ high. absurd (omega (arith, h.2 k high lt, e)))
      (cases_lt k i)))
      (λ lt. absurd (omega arith)) in
      rw at (rw (le-ltb (length xs) (length xs) (omega arith)) refl)

  -- a search tells the index
  pub index_by_search : (r : Result ℕ ℕ) → IsBinarySearchResult (λ y. nat_cmp y x) xs r
      → result_ok r ≡ position (λ i. eqb i x) xs
  index_by_search r h = index_of_found r (finds r h)

  -- what stands at an index has this index
  pub index_of_item : (k : ℕ) → k < length xs → get_or xs k 0 ≡ x → Some k ≡ position (λ i. eqb i x) xs
  index_of_item k within e = index_of_found (Ok k) (within, e)

  member_if_found : (r : Result ℕ ℕ) → Finds r → is_ok r ≡ list_any (λ y. eqb y x) xs
  member_if_found (Ok i) h = sym (subst (λ z. list_any (λ y. eqb y z) xs ≡ true) h.1 (member_at xs i h.0))
  member_if_found (Err i) h =
      sym (no_member xs x
      (λ k lt e. ⊎_elim (λ low. absurd (omega (arith, h.1 k low, e)))
      (λ high. absurd (omega (arith, h.2 k high lt, e))) (cases_lt k i)))

  pub member_by_search : (r : Result ℕ ℕ) → IsBinarySearchResult (λ y. nat_cmp y x) xs r
      → is_ok r ≡ list_any (λ y. eqb y x) xs
  member_by_search r h = member_if_found r (finds r h)

-- ---- the elements of a list at ascending indexes

-- the indexes ascend from `low` on and are below `high`
abbrev AreBetween : ℕ → ℕ → List ℕ → Type 0
AreBetween low high [] = Unit {0}
AreBetween low high (x ∷ xs) = (low ≤ x) × (x < high) × AreBetween (x + 1) high xs

between_from : (xs : List ℕ) (low high : ℕ) → IsStrictlyIncreasing xs
    → ((k : ℕ) → k < length xs → (low ≤ get_or xs k 0) × (get_or xs k 0 < high)) → AreBetween low high xs
between_from [] low high up within = tt
between_from (x ∷ xs) low high up within = (
  (within 0 (omega arith)).0,
  (within 0 (omega arith)).1,
  between_from xs (x + 1) high (λ k h. rises (x ∷ xs) up (suc k) (suc (k + 1)) (omega arith) (omega arith))
      (λ k h. (
        omega (arith, rises (x ∷ xs) up 0 (suc k) (omega arith) (omega arith)),
        (within (suc k) (omega arith)).1,
      )),
)

-- an index below all of them is none of them
above_low : (xs : List ℕ) (low high k : ℕ) → k < low → AreBetween low high xs → list_any (λ y. eqb y k) xs ≡ false
above_low [] low high k less all = refl
above_low (x ∷ xs) low high k less all =
    rw (ne_eqb x k (λ e. absurd (omega (arith, all.0)))) (above_low xs (x + 1) high k (omega (arith, all.0)) all.2)

-- an index later on, in a list with one element more in front
one_index_on : (a : ℕ) (rest xs : List ℕ) (low from high : ℕ) → low + 1 ≤ from → AreBetween from high xs →
    map (λ n. get_or (a ∷ rest) (n - low) 0) xs ≡ map (λ n. get_or rest (n - (low + 1)) 0) xs
one_index_on a rest [] low from high le all = refl
one_index_on a rest (x ∷ xs) low from high le all =
    let e : x - low ≡ suc (x - (low + 1)) = omega (arith, all.0) in
    ap₂ (λ y ys. y ∷ ys) (ap (λ n. get_or (a ∷ rest) n 0) e)
    (one_index_on a rest xs low (x + 1) high (omega (arith, all.0)) all.2)

-- the ids at the indexes from `low` on are those that pass a test which passes exactly there
filter_at : (p : ℕ → Bool) (ids row : List ℕ) (low : ℕ) → AreBetween low (low + length ids) row →
    ((k : ℕ) → k < length ids → p (get_or ids k 0) ≡ list_any (λ y. eqb y (low + k)) row)
    → map (λ n. get_or ids (n - low) 0) row ≡ filter p ids
filter_at p [] [] low all passes = refl
filter_at p [] (x ∷ xs) low all passes = absurd (omega (arith, all.0, all.1))
filter_at p (a ∷ rest) [] low all passes =
    rw (passes 0 (omega arith)) (filter_at p rest [] (low + 1) tt (λ k h. passes (suc k) (omega arith)))
filter_at p (a ∷ rest) (x ∷ xs) low all passes =
    ⊎_elim
    (λ same.
    let le : low + 1 ≤ low + 1 = omega arith in
    let here : p a ≡ true =
    passes 0 (omega arith) ∙ ap (λ b. b || list_any (λ y. eqb y (low + 0)) xs) (eq-eqb x (low + 0) (omega arith)) in
    let first : x - low ≡ 0 = omega arith in
    let tail : AreBetween (low + 1) ((low + 1) + length rest) xs =
    subst (λ h. AreBetween (low + 1) h xs) (omega arith)
    (subst (λ l. AreBetween (l + 1) (low + suc (length rest)) xs) same all.2) in
    let later : (k : ℕ) → k < length rest → p (get_or rest k 0) ≡ list_any (λ y. eqb y ((low + 1) + k)) xs =
    λ k h. passes (suc k) (omega arith)
    ∙ ap (λ b. b || list_any (λ y. eqb y (low + suc k)) xs) (ne_eqb x (low + suc k) (λ e. absurd (omega arith)))
    ∙ ap (λ n. list_any (λ y. eqb y n) xs) (omega arith) in
    let head : get_or (a ∷ rest) (x - low) 0 ≡ a = ap (λ n. get_or (a ∷ rest) n 0) first in
    let others : map (λ n. get_or (a ∷ rest) (n - low) 0) xs ≡ filter p rest =
    one_index_on a rest xs low (low + 1) ((low + 1) + length rest) le tail ∙ filter_at p rest xs (low + 1) tail later in
    rw here (ap₂ (λ y ys. y ∷ ys) head others))
    (λ other.
    let le : low + 1 ≤ low + 1 = omega arith in
    let more : low + 1 ≤ x = omega (arith, all.0) in
    let row_on : AreBetween (low + 1) ((low + 1) + length rest) (x ∷ xs) =
    (more, omega (arith, all.1), subst (λ h. AreBetween (x + 1) h xs) (omega arith) all.2) in
    let here : p a ≡ false =
    passes 0 (omega arith)
    ∙ above_low (x ∷ xs) (low + 1) ((low + 1) + length rest) (low + 0) (omega arith) row_on in
    let later : (k : ℕ) → k < length rest → p (get_or rest k 0) ≡ list_any (λ y. eqb y ((low + 1) + k)) (x ∷ xs) =
    λ k h. passes (suc k) (omega arith) ∙ ap (λ n. list_any (λ y. eqb y n) (x ∷ xs)) (omega arith) in
    rw here (one_index_on a rest (x ∷ xs) low (low + 1) ((low + 1) + length rest) le row_on
    ∙ filter_at p rest (x ∷ xs) (low + 1) row_on later))
    (cases_eq x low)

-- the ids at the indexes of an ascending row are those that pass a test which passes exactly there
pub filter_by_row : (p : ℕ → Bool) (ids row : List ℕ) → IsStrictlyIncreasing row →
    ((j : ℕ) → list_any (λ y. eqb y j) row ≡ true → j < length ids) →
    ((k : ℕ) → k < length ids → p (get_or ids k 0) ≡ list_any (λ y. eqb y k) row)
    → map (λ n. get_or ids n 0) row ≡ filter p ids
filter_by_row p ids row up within passes =
    let all : AreBetween 0 (0 + length ids) row =
    between_from row 0 (0 + length ids) up (λ k h. (omega arith, omega (arith, within _ (member_at row k h)))) in
    simp unary_clauses at
    (filter_at p ids row 0 all (λ k h. passes k h ∙ ap (λ n. list_any (λ y. eqb y n) row) (omega arith)))
