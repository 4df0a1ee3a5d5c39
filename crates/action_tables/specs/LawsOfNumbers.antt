-- The numbers of some bits give the bits back.
use Rattle.std.proofs.Common.{◌≡◌, ◌≢◌, ℕ, zero, suc, ◌+◌, ◌-◌, ◌^◌, ◌<◌, ◌≤◌, Bool, true, false, ◌==◌, ◌||◌, ◌&&◌}
use Rattle.std.proofs.Common.{cond, List, [], ◌∷◌, ⊎_elim, refl, sym, ap, ◌∙◌, max, arith}
use Rattle.std.specs.Int.{bit_at}
use Rattle.std.specs.List.{filter, range_with_len}
use Rattle.std.proofs.lemmas.Bool.{eqb-true}
use Rattle.std.proofs.lemmas.Bool.Decides.{eqb_tells}
use Rattle.std.proofs.lemmas.Map.Views.{any-filter_same}
use Rattle.std.proofs.lemmas.Nat.{or_lt}
use Rattle.std.proofs.Math.Pow.{pow-lt}
use Rattle.std.proofs.lemmas.Nat.Bits.{bit_at-zero, bit_at-lt, bit_at_or, bit_at-pow_same, bit_at-pow_other}
use Rattle.std.proofs.lemmas.Nat.Bits.{same_from_bits_below}
use Rattle.action_tables.specs.declared.case_set.CaseSet.TheInside.{Inside}
use Rattle.action_tables.specs.Numbers.{has_bit, is_among, all_cases, numbers_of, bits_of}

-- a number from 1 to 16
pub record IsCase (n : ℕ) : Type 0 where
  pub first : 1 ≤ n
  pub last : n ≤ 16

-- each of the numbers has the property
abbrev pub Each : (ℕ → Type 0) → List ℕ → Type 0
Each P [] = Unit {0}
Each P (x ∷ xs) = P x × Each P xs

each_kept : (P : ℕ → Type 0) (p : ℕ → Bool) (xs : List ℕ) → Each P xs → Each P (filter p xs)
each_kept P p [] h = tt
each_kept P p (x ∷ xs) h =
    let rest = each_kept P p xs h.1 in
    elim (p x) as (λ b. Each P (cond b (x ∷ filter p xs) (filter p xs))) [ true ↦ (h.0, rest) | false ↦ rest ]

are_cases : (a k : ℕ) → 1 ≤ a → a + k ≤ 17 → Each IsCase (range_with_len a k)
are_cases a zero low high = tt
are_cases a (suc k) low high =
    (record { first = low; last = omega arith }, are_cases (a + 1) k (omega arith) (omega arith))

pub every_case : Each IsCase all_cases
unfolding all_cases
every_case = are_cases 1 16 (omega arith) (omega arith)

in_range : (a k n : ℕ) → a ≤ n → n < a + k → is_among n (range_with_len a k) ≡ true
in_range a zero n low high = absurd (omega arith)
in_range a (suc k) n low high =
    ⊎_elim (λ same. rw same.0)
    (λ other. let ne : a ≢ n = other.1 in rw (other.0, in_range (a + 1) k n (omega arith) (omega arith)))
    (eqb_tells a n)

-- which of 1 to 16 a filter of them leaves
pub is_among-filter : (p : ℕ → Bool) (n : ℕ) → IsCase n → is_among n (filter p all_cases) ≡ p n
unfolding all_cases
is_among-filter p n h =
    any-filter_same (λ m. m == n) p (p n) (λ k e. ap p (eqb-true k n e)) (range_with_len 1 16)
    ∙ ap (λ b. p n && b) (in_range 1 16 n h.first (omega (arith, h.last)))
    ∙ (elim (p n) as (λ b. (b && true) ≡ b) [ true ↦ refl | false ↦ refl ])

max_one : (x : ℕ) → x < 2 → max 1 x ≡ 1
max_one x h = omega arith

max_zero : (x : ℕ) → max 0 x ≡ x
max_zero x = omega arith

bit_at-bits_of : (ns : List ℕ) (i : ℕ) → Each IsCase ns → bit_at (bits_of ns) i ≡ cond (is_among (i + 1) ns) 1 0
unfolding bits_of
bit_at-bits_of [] i h = bit_at-zero i
bit_at-bits_of (n ∷ ns) i h =
    let rest = bit_at-bits_of ns i h.1 in
    let low : 1 ≤ n = h.0.first in
    bit_at_or (2 ^ (n - 1)) (bits_of ns) i
    ∙ ⊎_elim
    (λ same.
    let at : i ≡ n - 1 = omega (arith, same.1) in
    let one : bit_at (2 ^ (n - 1)) i ≡ 1 = ap (bit_at (2 ^ (n - 1))) at ∙ bit_at-pow_same (n - 1) in
    ap (λ x. max x (bit_at (bits_of ns) i)) one ∙ max_one _ (bit_at-lt (bits_of ns) i)
    ∙ sym (ap (λ b. cond (b || is_among (i + 1) ns) 1 0) same.0))
    (λ other.
    let ne : n ≢ i + 1 = other.1 in
    let none : bit_at (2 ^ (n - 1)) i ≡ 0 = bit_at-pow_other (n - 1) i (λ e. ne (omega arith)) in
    ap (λ x. max x (bit_at (bits_of ns) i)) none ∙ max_zero _ ∙ rest
    ∙ sym (ap (λ b. cond (b || is_among (i + 1) ns) 1 0) other.0))
    (eqb_tells n (i + 1))

bits_of-lt : (ns : List ℕ) → Each IsCase ns → bits_of ns < 2 ^ 16
unfolding bits_of
bits_of-lt [] h = omega arith
bits_of-lt (n ∷ ns) h =
    or_lt 16 (2 ^ (n - 1)) (bits_of ns) (pow-lt {i = n - 1} {j = 16} (omega (arith, h.0.last))) (bits_of-lt ns h.1)

cond_bit : (b : ℕ) → b < 2 → cond (b == 1) 1 0 ≡ b
cond_bit zero h = refl
cond_bit (suc zero) h = refl
cond_bit (suc (suc b)) h = absurd (omega arith)

pub bits_of-numbers_of : (s : ℕ) → s < 65536 → bits_of (numbers_of s) ≡ s
unfolding numbers_of
bits_of-numbers_of s h =
    let cases : Each IsCase (numbers_of s) = each_kept IsCase (λ n. has_bit s n) all_cases every_case in
    same_from_bits_below 16 (bits_of (numbers_of s)) s (bits_of-lt (numbers_of s) cases) h (λ i small.
    let place : (i + 1) - 1 ≡ i = omega arith in
    bit_at-bits_of (numbers_of s) i cases
    ∙ ap (λ b. cond b 1 0)
    (is_among-filter (λ n. has_bit s n) (i + 1) (record { first = omega arith; last = omega arith }))
    ∙ ap (λ k. cond (bit_at s k == 1) 1 0) place
    ∙ cond_bit (bit_at s i) (bit_at-lt s i))

pub inside_again : (s : Inside) → s.bits < 65536 → record { bits = bits_of (numbers_of s.bits) } ≡ s
inside_again s h = let inside : ℕ → Inside = λ b. record { bits = b } in ap inside (bits_of-numbers_of s.bits h)
