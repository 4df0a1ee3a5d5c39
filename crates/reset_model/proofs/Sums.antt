-- Sums over a list of numbers, and tests of its elements.
use Rattle.std.proofs.Common.{◌≡◌, ℕ, zero, suc, ◌+◌, ◌*◌, ◌<◌, ◌≤◌, Bool, true, false, cond, List, [], ◌∷◌}
use Rattle.std.proofs.Common.{length, Contains, refl, sym, subst, true≢false, arith}
use Rattle.std.specs.List.{list_any, sum_by}
use Rattle.std.proofs.lemmas.List.Folds.{Any-from_list_any, list_any-from_Any}
use Rattle.std.proofs.lemmas.List.Sums.{sum_by-cons}

-- ---- sums over a list

later : (x : ℕ) (xs : List ℕ) (k : ℕ) → Contains xs k → Contains (x ∷ xs) k
later x xs k there = (suc there.0, omega (arith, there.1), there.2)

first : (x : ℕ) (xs : List ℕ) → Contains (x ∷ xs) x
first x xs = (0, omega arith, refl)

module _ (f h : ℕ → ℕ) where
  pub sum_le : (xs : List ℕ) → ((k : ℕ) → Contains xs k → h k ≤ f k) → sum_by h xs ≤ sum_by f xs
  sum_le [] le = omega arith
  sum_le (x ∷ xs) le =
      omega (arith, sum_by-cons h x xs, sum_by-cons f x xs, le x (first x xs), sum_le xs (λ k there. le k (later x xs k there)))

  pub sum_less : (xs : List ℕ) → ((k : ℕ) → Contains xs k → h k ≤ f k) → (k : ℕ) → Contains xs k → h k < f k
      → sum_by h xs < sum_by f xs
  sum_less [] le k there less = absurd (omega (arith, there.1))
  sum_less (x ∷ xs) le k (zero, low, is) less =
      let here : h x < f x = subst (λ n. h n < f n) (sym is) less in
      omega (arith, sum_by-cons h x xs, sum_by-cons f x xs, here, sum_le xs (λ n there. le n (later x xs n there)))
  sum_less (x ∷ xs) le k (suc n, low, is) less =
      omega (
        arith,
        sum_by-cons h x xs,
        sum_by-cons f x xs,
        le x (first x xs),
        sum_less xs (λ j there. le j (later x xs j there)) k (n, omega (arith, low), is) less,
      )

pub sum_three : (f : ℕ → ℕ) (xs : List ℕ) → sum_by (λ k. f k + 3) xs ≡ sum_by f xs + 3 * length xs
sum_three f [] = omega arith
sum_three f (x ∷ xs) =
    omega (arith, sum_by-cons (λ k. f k + 3) x xs, sum_by-cons f x xs, sum_three f xs)

pub sum_least : (f : ℕ → ℕ) (xs : List ℕ) → ((k : ℕ) → Contains xs k → 1 ≤ f k) → length xs ≤ sum_by f xs
sum_least f [] least = omega arith
sum_least f (x ∷ xs) least =
    omega (arith, sum_by-cons f x xs, least x (first x xs), sum_least f xs (λ k there. least k (later x xs k there)))

pub sum_most : (f : ℕ → ℕ) (d : ℕ) (xs : List ℕ) → d ≤ 4 → ((k : ℕ) → Contains xs k → f k ≤ d)
    → sum_by f xs ≤ 4 * length xs
sum_most f d [] few most = omega arith
sum_most f d (x ∷ xs) few most =
    omega (arith, few, sum_by-cons f x xs, most x (first x xs), sum_most f d xs few (λ k there. most k (later x xs k there)))

pub sum_ones : (f : ℕ → ℕ) (xs : List ℕ) → ((k : ℕ) → Contains xs k → f k ≡ 1) → sum_by f xs ≡ length xs
sum_ones f [] ones = refl
sum_ones f (x ∷ xs) ones =
    omega (arith, sum_by-cons f x xs, ones x (first x xs), sum_ones f xs (λ k there. ones k (later x xs k there)))

-- ---- tests of the elements of a list

pub any_some : (p : ℕ → Bool) (xs : List ℕ) → list_any p xs ≡ true → (k : ℕ) × Contains xs k × (p k ≡ true)
any_some p xs is = let at = Any-from_list_any p xs is in (at.1, (at.0, at.2, at.3), at.4)

pub some_any : (p : ℕ → Bool) (xs : List ℕ) (k : ℕ) → Contains xs k → p k ≡ true → list_any p xs ≡ true
some_any p xs k there is = list_any-from_Any p xs (there.0, k, there.1, there.2, is)

abbrev pub one_if : Bool → ℕ
one_if b = cond b 1 0

pub cond_le : (n : ℕ) (a b : Bool) → (a ≡ true → b ≡ true) → cond a n 0 ≤ cond b n 0
cond_le n true true up = omega arith
cond_le n true false up = absurd (true≢false (sym (up refl)))
cond_le n false b up = omega arith

pub cond_most : (n : ℕ) (b : Bool) → cond b n 0 ≤ n
cond_most n true = omega arith
cond_most n false = omega arith
