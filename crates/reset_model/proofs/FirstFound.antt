-- The first of ascending ids that passes a test.
use Rattle.std.proofs.Common.{◌≡◌, ◌≢◌, ℕ, zero, suc, ◌<◌, ◌≤◌, Bool, true, false, nat_eq, List, [], ◌∷◌, length}
use Rattle.std.proofs.Common.{slice_index, Some, None, Contains, ◌⊎◌, inl, inr, ⊎_elim, refl, sym, ap, ◌∙◌, true≢false}
use Rattle.std.proofs.Common.{arith}
use Rattle.std.specs.List.{find}
use Rattle.std.specs.List.Sorted.{IsStrictlyIncreasing}
use Rattle.std.proofs.Math.Nat.{eq-or-lt_of_le}
use Rattle.std.proofs.lemmas.Bool.{cases_lt}
use Rattle.std.proofs.lemmas.Bool.Decides.{eqb_tells}
use Rattle.std.proofs.lemmas.List.{get_or_default}
use Rattle.std.proofs.lemmas.List.Kept.{AllPairs-from_increasing}
use Rattle.topology.specs.Graph.{has}
use Rattle.topology.proofs.Membership.{has-Contains, Contains-has}

-- j stands at place n, passes the test, and is the first to
record IsFirstAt (q : ℕ → Bool) (xs : List ℕ) (j n : ℕ) : Type 0 where
  short : n < length xs
  here : slice_index xs n ≡ j
  passes : q j ≡ true
  before : (m : ℕ) → m < n → q (slice_index xs m) ≡ false

found_at : (q : ℕ → Bool) (xs : List ℕ) (j : ℕ) → find q xs ≡ Some j → (n : ℕ) × IsFirstAt q xs j n
found_at q [] j is = absurd (cc)
found_at q (x ∷ xs) j is = at (q x) refl (found_at q xs j)
  where
    at : (b : Bool) → q x ≡ b → (find q xs ≡ Some j → (n : ℕ) × IsFirstAt q xs j n) → (n : ℕ) × IsFirstAt q (x ∷ xs) j n
    at true passes rest =
        let same : x ≡ j = (let found : Some x ≡ Some j = rw passes at is in cc) in (
          0,
          record {
            short = omega arith;
            here = same;
            passes = ap q (sym same) ∙ passes;
            before = λ m low. absurd (omega (arith, low));
          },
        )
    at false fails rest =
        let more = rest (rw fails at is) in (
          suc more.0,
          record {
            short = omega (arith, more.1.short);
            here = more.1.here;
            passes = more.1.passes;
            before = before more.0 more.1.before;
          },
        )
      where
        before : (n : ℕ) → ((m : ℕ) → m < n → q (slice_index xs m) ≡ false) → (m : ℕ) → m < suc n
            → q (slice_index (x ∷ xs) m) ≡ false
        before n rest zero low = fails
        before n rest (suc m) low = rest m (omega arith)

-- what is found is there and passes, and nothing below it does
pub find-first : (q : ℕ → Bool) (xs : List ℕ) (j : ℕ) → IsStrictlyIncreasing xs → find q xs ≡ Some j
    → (has xs j ≡ true) × (q j ≡ true) × ((k : ℕ) → has xs k ≡ true → k < j → q k ≡ false)
find-first q xs j up is =
    (has-Contains xs j (n, at.short, get_or_default xs n j 0 at.short ∙ at.here), at.passes, first)
  where
    n : ℕ
    n = (found_at q xs j is).0

    at : IsFirstAt q xs j n
    at = (found_at q xs j is).1

    first : (k : ℕ) → has xs k ≡ true → k < j → q k ≡ false
    first k there low = place (Contains-has xs k there)
      where
        place : Contains xs k → q k ≡ false
        place (m, short, here) =
            let is_k : slice_index xs m ≡ k = get_or_default xs m 0 k short ∙ here in
            ⊎_elim
            (λ (before : m < n). ap q (sym is_k) ∙ at.before m before)
            (λ (after : n ≤ m). absurd (⊎_elim
            (λ (same : n ≡ m). omega (arith, low, is_k, at.here, ap (slice_index xs) same))
            (λ (later : n < m). omega (arith, low, is_k, at.here, AllPairs-from_increasing xs up n m 0 later short))
            (eq-or-lt_of_le after)))
            (cases_lt m n)

-- where nothing is found nothing passes
pub find-none : (q : ℕ → Bool) (xs : List ℕ) (k : ℕ) → find q xs ≡ None → has xs k ≡ true → q k ≡ false
find-none q [] k is there = absurd (true≢false (sym there))
find-none q (x ∷ xs) k is there = at (q x) refl (eqb_tells x k) (find-none q xs k)
  where
    at : (b : Bool) → q x ≡ b → ((nat_eq x k ≡ true) × (x ≡ k)) ⊎ ((nat_eq x k ≡ false) × (x ≢ k))
        → (find q xs ≡ None → has xs k ≡ true → q k ≡ false) → q k ≡ false
    at true passes same rest = let found : Some x ≡ None = rw passes at is in absurd (cc)
    at false fails (inl same) rest = ap q (sym same.1) ∙ fails
    at false fails (inr other) rest = rest (rw fails at is) (rw other.0 at there)
