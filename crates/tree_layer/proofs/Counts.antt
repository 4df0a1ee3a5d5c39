-- A list has at least as many items as its items have numbers.
use Rattle.std.proofs.Common.{◌≡◌, ℕ, zero, suc, ◌+◌, ◌-◌, ◌<◌, ◌≤◌, min, List, [], ◌∷◌, length, Contains, ap, arith}

module _ (f : ℕ → ℕ) where
  -- how many items have a number below n
  abbrev count_below : ℕ → List ℕ → ℕ
  count_below n [] = 0
  count_below n (x ∷ xs) = min 1 (n - f x) + count_below n xs

  count_below-le_length : (n : ℕ) (xs : List ℕ) → count_below n xs ≤ length xs
  count_below-le_length n [] = omega arith
  count_below-le_length n (x ∷ xs) = omega (arith, count_below-le_length n xs)

  count_below-le_suc : (n : ℕ) (xs : List ℕ) → count_below n xs ≤ count_below (suc n) xs
  count_below-le_suc n [] = omega arith
  count_below-le_suc n (x ∷ xs) = omega (arith, count_below-le_suc n xs)

  -- where an item has the number n it counts too
  count_below-lt_suc : (n : ℕ) (xs : List ℕ) (x : ℕ) → Contains xs x → f x ≡ n
      → count_below n xs < count_below (suc n) xs
  count_below-lt_suc n [] x there here = absurd (omega (arith, there.1))
  count_below-lt_suc n (y ∷ ys) x (zero, short, same) here = omega (arith, here, ap f same, count_below-le_suc n ys)
  count_below-lt_suc n (y ∷ ys) x (suc k, short, same) here =
      omega (arith, count_below-lt_suc n ys x (k, omega arith, same) here)

  all_below : (n : ℕ) (xs : List ℕ) → ((m : ℕ) → m < n → (x : ℕ) × Contains xs x × (f x ≡ m)) → n ≤ count_below n xs
  all_below zero xs each = omega arith
  all_below (suc n) xs each =
      let at = each n (omega arith) in
      let more = all_below n xs (λ m low. each m (omega arith)) in
      omega (arith, more, count_below-lt_suc n xs at.0 at.1 at.2)

  -- a list whose items have each number below n has at least n items
  pub length_above : (n : ℕ) (xs : List ℕ) → ((m : ℕ) → m < n → (x : ℕ) × Contains xs x × (f x ≡ m)) → n ≤ length xs
  length_above n xs each = omega (arith, all_below n xs each, count_below-le_length n xs)
