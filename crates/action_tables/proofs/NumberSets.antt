-- Sets of numbers from 1 to 16, kept in bits.
use Rattle.std.proofs.Common.{◌≡◌, ◌≢◌, ℕ, zero, suc, ◌+◌, ◌-◌, ◌*◌, ◌%◌, ◌/◌, ◌^◌, ◌<◌, ◌≤◌, Bool, true, false, ◌==◌}
use Rattle.std.proofs.Common.{◌||◌, ◌&&◌, cond, List, [], ◌∷◌, length, slice_get, Some, w16, ⊎_elim, refl, sym, ap, ◌∙◌}
use Rattle.std.proofs.Common.{subst, add-zero, arith}
use Rattle.std.specs.BTreeSet.{insert_key}
use Rattle.std.specs.Cmp.{nat_cmp_is}
use Rattle.std.specs.Int.{bit_at, trailing_zeros}
use Rattle.std.specs.Int.Count.{ones, ones_step}
use Rattle.std.specs.Int.RustNames.{bit_or}
use Rattle.std.specs.List.{filter, range_with_len}
use Rattle.std.specs.declared.cmp.Ordering.TheVariants.{Less, Equal, Greater}
use Rattle.std.specs.Ordering.{nat_cmp, match_ordering}
use Rattle.std.proofs.Math.Bool.{and-false}
use Rattle.std.proofs.lemmas.Bool.{eqb-true}
use Rattle.std.proofs.lemmas.Bool.Decides.{eqb_tells}
use Rattle.std.proofs.lemmas.Map.Views.{any-filter_same}
use Rattle.std.proofs.lemmas.Nat.{ones-le}
use Rattle.std.proofs.Math.Nat.{pow-succ'}
use Rattle.std.proofs.lemmas.Nat.Bits.{bit_at-zero, bit_at-suc, bit_at_lowest, bit_at_set_same, bit_at_set_other}
use Rattle.std.proofs.lemmas.Nat.Bits.{bit_at-trailing_zeros}
use Rattle.action_tables.specs.Numbers.{has_bit, is_among, with_number, all_cases, numbers_of}
use Rattle.action_tables.specs.LawsOfNumbers.{IsCase, Each, every_case, is_among-filter}

-- two tests that agree at each element
filter_alike : (p q : ℕ → Bool) (xs : List ℕ) → Each (λ x. p x ≡ q x) xs → filter p xs ≡ filter q xs
filter_alike p q [] h = refl
filter_alike p q (x ∷ xs) h =
    ap (λ b. cond b (x ∷ filter p xs) (filter p xs)) h.0 ∙ ap (λ l. cond (q x) (x ∷ l) l) (filter_alike p q xs h.1)

-- the numbers from a on
above : (P : ℕ → Type 0) (a k : ℕ) → ((m : ℕ) → a ≤ m → P m) → Each P (range_with_len a k)
above P a zero h = tt
above P a (suc k) h = (h a (omega arith), above P (a + 1) k (λ m low. h m (omega arith)))

insert-less : (n x : ℕ) (xs : List ℕ) → n < x → insert_key nat_cmp (x ∷ xs) n ≡ n ∷ x ∷ xs
insert-less n x xs h =
    ap (λ o. match_ordering o (n ∷ x ∷ xs) (x ∷ xs) (x ∷ insert_key nat_cmp xs n)) (sym (nat_cmp_is n x Less h))

insert-same : (n x : ℕ) (xs : List ℕ) → n ≡ x → insert_key nat_cmp (x ∷ xs) n ≡ x ∷ xs
insert-same n x xs h =
    ap (λ o. match_ordering o (n ∷ x ∷ xs) (x ∷ xs) (x ∷ insert_key nat_cmp xs n)) (sym (nat_cmp_is n x Equal h))

pub insert-more : (n x : ℕ) (xs : List ℕ) → x < n → insert_key nat_cmp (x ∷ xs) n ≡ x ∷ insert_key nat_cmp xs n
insert-more n x xs h =
    ap (λ o. match_ordering o (n ∷ x ∷ xs) (x ∷ xs) (x ∷ insert_key nat_cmp xs n)) (sym (nat_cmp_is n x Greater h))

-- a number below all of a list goes to its beginning
insert_prefix : (p : ℕ → Bool) (n a k : ℕ) → n < a
    → insert_key nat_cmp (filter p (range_with_len a k)) n ≡ n ∷ filter p (range_with_len a k)
insert_prefix p n a zero h = refl
insert_prefix p n a (suc k) h =
    let rest = filter p (range_with_len (a + 1) k) in
    elim (p a) as (λ b. insert_key nat_cmp (cond b (a ∷ rest) rest) n ≡ n ∷ cond b (a ∷ rest) rest) [
      | true ↦ insert-less n a rest h
      | false ↦ insert_prefix p n (a + 1) k (omega arith)
    ]

-- a, then the kept numbers of rest, where a is n
insert_here : (b : Bool) (n a : ℕ) (rest : List ℕ) → a ≡ n → insert_key nat_cmp rest n ≡ n ∷ rest
    → a ∷ rest ≡ insert_key nat_cmp (cond b (a ∷ rest) rest) n
insert_here true n a rest is prefix = sym (insert-same n a rest (sym is))
insert_here false n a rest is prefix = ap (λ x. x ∷ rest) is ∙ sym prefix

-- the same where a is below n
insert_later : (b : Bool) (n a : ℕ) (rest : List ℕ) → a < n
    → cond b (a ∷ insert_key nat_cmp rest n) (insert_key nat_cmp rest n) ≡ insert_key nat_cmp (cond b (a ∷ rest) rest) n
insert_later true n a rest h = sym (insert-more n a rest h)
insert_later false n a rest h = refl

-- the test q is p, and holds of n as well
inserted : (p q : ℕ → Bool) (n a k : ℕ) → ((m : ℕ) → 1 ≤ m → m ≢ n → q m ≡ p m) → q n ≡ true → 1 ≤ a → a ≤ n → n < a + k
    → filter q (range_with_len a k) ≡ insert_key nat_cmp (filter p (range_with_len a k)) n
inserted p q n a zero same at pos low high = absurd (omega arith)
inserted p q n a (suc k) same at pos low high =
    let keep : List ℕ = filter q (range_with_len (a + 1) k) in
    let rest : List ℕ = filter p (range_with_len (a + 1) k) in
    ⊎_elim
    (λ here.
    let is : a ≡ n = here.1 in
    let below : n < a + 1 = omega arith in
    let tail : keep ≡ rest =
    filter_alike q p (range_with_len (a + 1) k)
    (above (λ m. q m ≡ p m) (a + 1) k (λ m later. same m (omega arith) (λ e. absurd (omega arith)))) in
    ap (λ b. cond b (a ∷ keep) keep) (ap q is ∙ at) ∙ ap (λ (l : List ℕ). a ∷ l) tail
    ∙ insert_here (p a) n a rest is (insert_prefix p n (a + 1) k below))
    (λ other.
    let ne : a ≢ n = other.1 in
    let under : a < n = omega arith in
    let tail : keep ≡ insert_key nat_cmp rest n =
    inserted p q n (a + 1) k same at (omega arith) (omega arith) (omega arith) in
    ap (λ b. cond b (a ∷ keep) keep) (same a pos ne) ∙ ap (λ (l : List ℕ). cond (p a) (a ∷ l) l) tail
    ∙ insert_later (p a) n a rest under)
    (eqb_tells a n)

-- setting the bit of n
pub numbers_of-set : (s n : ℕ) → 1 ≤ n → n ≤ 16
    → numbers_of (bit_or s (1 * 2 ^ (n - 1) % 2 ^ 16)) ≡ with_number n (numbers_of s)
unfolding numbers_of all_cases
numbers_of-set s n low high =
    let within : n - 1 < 16 = omega arith in
    inserted (λ m. has_bit s m) (λ m. has_bit (bit_or s (1 * 2 ^ (n - 1) % 2 ^ 16)) m) n 1 16
    (λ m pos ne. ap (λ b. b == 1) (bit_at_set_other w16 s (n - 1) within (m - 1) (λ e. ne (omega arith))))
    (ap (λ b. b == 1) (bit_at_set_same w16 s (n - 1) within)) (omega arith) low (omega arith)

-- a number from 1 to 16 is there where its bit is set
pub is_among-case : (s n : ℕ) → 1 ≤ n → n ≤ 16 → is_among n (numbers_of s) ≡ has_bit s n
unfolding numbers_of
is_among-case s n low high = is_among-filter (λ m. has_bit s m) n (record { first = low; last = high })

outside : (n : ℕ) (xs : List ℕ) → Each IsCase xs → (IsCase n → ⊥) → is_among n xs ≡ false
outside n [] all absent = refl
outside n (x ∷ xs) all absent =
    ⊎_elim (λ same. absurd (absent (let P : ℕ → Type 0 = λ m. IsCase m in subst P same.1 all.0)))
    (λ other. ap (λ b. b || is_among n xs) other.0 ∙ outside n xs all.1 absent) (eqb_tells x n)

-- and no other number is
pub is_among-other : (s n : ℕ) → (IsCase n → ⊥) → is_among n (numbers_of s) ≡ false
unfolding numbers_of
is_among-other s n absent =
    any-filter_same (λ m. m == n) (λ m. has_bit s m) (has_bit s n) (λ k e. ap (λ m. has_bit s m) (eqb-true k n e))
    all_cases
    ∙ ap (λ b. has_bit s n && b) (outside n all_cases every_case absent) ∙ and-false (has_bit s n)

listed : (p : ℕ → Bool) (xs : List ℕ) → Each IsCase xs → Each (λ n. p n ≡ is_among n (filter p all_cases)) xs
listed p [] h = tt
listed p (x ∷ xs) h = (sym (is_among-filter p x h.0), listed p xs h.1)

-- the numbers are those of all that are there
pub numbers_of-listed : (s : ℕ) → numbers_of s ≡ filter (λ n. is_among n (numbers_of s)) all_cases
unfolding numbers_of
numbers_of-listed s = filter_alike _ _ all_cases (listed (λ n. has_bit s n) all_cases every_case)

first_kept : (p : ℕ → Bool) (n a k : ℕ) → a ≤ n → n < a + k → p n ≡ true → ((m : ℕ) → a ≤ m → m < n → p m ≡ false)
    → slice_get (filter p (range_with_len a k)) 0 ≡ Some n
first_kept p n a zero low high at before = absurd (omega arith)
first_kept p n a (suc k) low high at before =
    let rest = filter p (range_with_len (a + 1) k) in
    ⊎_elim (λ here. ap (λ b. slice_get (cond b (a ∷ rest) rest) 0) (ap p here.1 ∙ at) ∙ ap (λ m. Some m) here.1)
    (λ other.
    let ne : a ≢ n = other.1 in
    ap (λ b. slice_get (cond b (a ∷ rest) rest) 0) (before a (omega arith) (omega arith))
    ∙ first_kept p n (a + 1) k (omega arith) (omega arith) at (λ m later. before m (omega arith)))
    (eqb_tells a n)

none_kept : (p : ℕ → Bool) (xs : List ℕ) → ((m : ℕ) → p m ≡ false) → filter p xs ≡ []
none_kept p [] h = refl
none_kept p (x ∷ xs) h = ap (λ b. cond b (x ∷ filter p xs) (filter p xs)) (h x) ∙ none_kept p xs h

-- no bit is set
pub numbers_of-zero : numbers_of 0 ≡ []
unfolding numbers_of
numbers_of-zero = none_kept (λ n. has_bit 0 n) all_cases (λ m. ap (λ b. b == 1) (bit_at-zero (m - 1)))

-- the lowest bit that is set
pub numbers_of-first : (s : ℕ) → 0 < s → s < 2 ^ 16 → slice_get (numbers_of s) 0 ≡ Some (trailing_zeros w16 s + 1)
unfolding numbers_of all_cases
numbers_of-first s pos fits =
    let (within, set, before) = bit_at-trailing_zeros w16 s pos fits in
    let z = trailing_zeros w16 s in
    let back : (z + 1) - 1 ≡ z = omega arith in
    first_kept (λ n. has_bit s n) (z + 1) 1 16 (omega arith) (omega (arith, within))
    (ap (λ b. b == 1) (ap (λ i. bit_at s i) back ∙ set))
    (λ m low less. ap (λ b. b == 1) (before (m - 1) (omega arith)))

count_step : (b r l : ℕ) → b < 2 → r ≡ l → b + r ≡ cond (b == 1) (l + 1) l
count_step zero r l h e = omega arith
count_step (suc zero) r l h e = omega arith
count_step (suc (suc b)) r l h e = absurd (omega arith)

length_kept : (b : Bool) (x : ℕ) (xs : List ℕ) → length (cond b (x ∷ xs) xs) ≡ cond b (length xs + 1) (length xs)
length_kept true x xs = omega arith
length_kept false x xs = refl

one_later : (a i : ℕ) → (a + 1) + i ≡ a + suc i
one_later a i = omega arith

ones_kept : (p : ℕ → Bool) (a k s : ℕ) → s < 2 ^ k → ((i : ℕ) → p (a + i) ≡ (bit_at s i == 1))
    → ones s ≡ length (filter p (range_with_len a k))
ones_kept p a zero s fits is = let none : ones s ≤ 0 = ones-le 0 s fits in omega arith
ones_kept p a (suc k) s fits is =
    let rest = filter p (range_with_len (a + 1) k) in
    let same : ones (s / 2) ≡ length rest =
    ones_kept p (a + 1) k (s / 2) (omega (arith, pow-succ' 2 k))
    (λ i. ap p (one_later a i) ∙ is (suc i) ∙ ap (λ b. b == 1) (bit_at-suc s i)) in
    let lowest : p a ≡ (s % 2 == 1) = ap p (sym (add-zero a)) ∙ is 0 ∙ ap (λ b. b == 1) (bit_at_lowest s) in
    ones_step s ∙ count_step (s % 2) (ones (s / 2)) (length rest) (omega arith) same
    ∙ ap (λ b. cond b (length rest + 1) (length rest)) (sym lowest) ∙ sym (length_kept (p a) a rest)

back_one : (i : ℕ) → 1 + i - 1 ≡ i
back_one i = omega arith

-- as many numbers as bits are set
pub numbers_of-count : (s : ℕ) → s < 2 ^ 16 → ones s ≡ length (numbers_of s)
unfolding numbers_of all_cases
numbers_of-count s fits = ones_kept (λ n. has_bit s n) 1 16 s fits (λ i. ap (λ j. bit_at s j == 1) (back_one i))
