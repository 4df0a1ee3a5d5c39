-- What is written for one number after the other.
use Rattle.std.proofs.Common.{◌≡◌, ℕ, zero, suc, ◌+◌, ◌-◌, ◌<◌, List, [], ◌++◌, Option, sym, ap, ◌∙◌, append_assoc}
use Rattle.std.proofs.Common.{append-nil, arith}
use Rattle.std.specs.List.{flat_map, range_with_len}
use Rattle.std.specs.Io.KnownBytes.{Appends}
use Rattle.std.proofs.KnownBytes.{Appends-trans}
use Rattle.action_tables.specs.Written.{AppendsPrefix}
use Rattle.action_tables.proofs.Prefixes.{AppendsPrefix-first, AppendsPrefix-then}

module _ (f : ℕ → List ℕ) where
  -- the numbers before i, i itself and those after it
  parted : (a i n : ℕ) → i < n
      → flat_map f (range_with_len a n)
      ≡ flat_map f (range_with_len a i) ++ (f (a + i) ++ flat_map f (range_with_len (a + i + 1) (n - i - 1)))
  parted a i zero low = absurd (omega (arith, low))
  parted a zero (suc n) low =
      let here : a ≡ a + 0 = omega arith in
      let rest : n ≡ suc n - 0 - 1 = omega arith in
      ap (λ k. f k ++ flat_map f (range_with_len (k + 1) n)) here
      ∙ ap (λ k. f (a + 0) ++ flat_map f (range_with_len (a + 0 + 1) k)) rest
  parted a (suc i) (suc n) low =
      let here : (a + 1) + i ≡ a + suc i = omega arith in
      let rest : n - i - 1 ≡ suc n - suc i - 1 = omega arith in
      ap (λ t. f a ++ t)
      (parted (a + 1) i n (omega (arith, low))
      ∙ ap (λ k. flat_map f (range_with_len (a + 1) i) ++ (f k ++ flat_map f (range_with_len (k + 1) (n - i - 1)))) here
      ∙ ap (λ k. flat_map f (range_with_len (a + 1) i) ++ (f (a + suc i) ++ flat_map f (range_with_len (a + suc i + 1)
      k))) rest)
      ∙ sym (append_assoc (f a) _ _)

  next : (i : ℕ) → flat_map f (range_with_len 0 (i + 1)) ≡ flat_map f (range_with_len 0 i) ++ f i
  next i =
      let none : i + 1 - i - 1 ≡ 0 = omega arith in
      parted 0 i (i + 1) (omega arith)
      ∙ ap (λ k. flat_map f (range_with_len 0 i) ++ (f (0 + i) ++ flat_map f (range_with_len (0 + i + 1) k))) none
      ∙ ap (λ k. flat_map f (range_with_len 0 i) ++ (f k ++ [])) (let at : 0 + i ≡ i = omega arith in at)
      ∙ ap (λ t. flat_map f (range_with_len 0 i) ++ t) (append-nil (f i))

  -- one number more
  pub one_written : (a b c : Option (List ℕ)) (i : ℕ) → Appends a b (flat_map f (range_with_len 0 i)) → Appends b c (f i)
      → Appends a c (flat_map f (range_with_len 0 (i + 1)))
  one_written a b c i before here =
      rw (next i) (Appends-trans a b c (flat_map f (range_with_len 0 i)) (f i) before here)

  -- and one that failed
  pub one_failed : (a b c : Option (List ℕ)) (i n : ℕ) → i < n → Appends a b (flat_map f (range_with_len 0 i))
      → AppendsPrefix b c (f i) → AppendsPrefix a c (flat_map f (range_with_len 0 n))
  one_failed a b c i n low before here =
      let at : 0 + i ≡ i = omega arith in
      rw (parted 0 i n low, at)
      (AppendsPrefix-then a b c (flat_map f (range_with_len 0 i)) _ before
      (AppendsPrefix-first b c (f i) (flat_map f (range_with_len (i + 1) (n - i - 1))) here))
