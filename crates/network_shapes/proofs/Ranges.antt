-- Numbers one after the other.
use Rattle.std.proofs.Common.{◌≡◌, ℕ, zero, suc, ◌+◌, ◌-◌, ◌<◌, ◌≤◌, Bool, true, false, List, [], ◌∷◌, ◌++◌, length}
use Rattle.std.proofs.Common.{get_or, Some, All, Contains, ap, ◌∙◌, arith, ⊎_elim}
use Rattle.std.specs.List.{find, flat_map, range_with_len}
use Rattle.std.proofs.lemmas.Bool.{cases_eq, cases_lt}
use Rattle.std.proofs.lemmas.List.{append-nil}
use Rattle.std.proofs.lemmas.List.Concat.{flat_map-append}
use Rattle.std.proofs.lemmas.List.Elements.{All-append, All-nil}
use Rattle.std.proofs.lemmas.List.FromFn.{get_or-range_with_len, length-range_with_len}

range-more : (a n : ℕ) → range_with_len a (suc n) ≡ range_with_len a n ++ (a + n) ∷ []
range-more a zero = ap (λ b. b ∷ []) (omega arith)
range-more a (suc n) =
    ap (λ bs. a ∷ bs) (range-more (a + 1) n)
    ∙ ap (λ b. a ∷ (range_with_len (a + 1) n ++ b ∷ [])) (let e : (a + 1) + n ≡ a + suc n = omega arith in e)

-- the numbers from a to b, and those before b
pub range_next : (a b : ℕ) → a ≤ b → range_with_len a (b + 1 - a) ≡ range_with_len a (b - a) ++ b ∷ []
range_next a b le =
    ap (range_with_len a) (let e : b + 1 - a ≡ suc (b - a) = omega arith in e) ∙ range-more a (b - a)
    ∙ ap (λ x. range_with_len a (b - a) ++ x ∷ []) (let e : a + (b - a) ≡ b = omega arith in e)

-- what each of them gives, one after the other
pub flat_map_next : {X : Type 0} (f : ℕ → List X) (a b : ℕ) → a ≤ b
    → flat_map f (range_with_len a (b + 1 - a)) ≡ flat_map f (range_with_len a (b - a)) ++ f b
flat_map_next f a b le =
    ap (flat_map f) (range_next a b le) ∙ flat_map-append f (range_with_len a (b - a)) (b ∷ [])
    ∙ ap (λ xs. flat_map f (range_with_len a (b - a)) ++ xs) (append-nil (f b))

-- the first of the numbers that passes a test
pub find_range : (p : ℕ → Bool) (a n w : ℕ) → a ≤ w → w < a + n → p w ≡ true → ((v : ℕ) → a ≤ v → v < w → p v ≡ false)
    → find p (range_with_len a n) ≡ Some w
find_range p a zero w low high here before = absurd (omega arith)
find_range p a (suc n) w low high here before =
    ⊎_elim
    (λ (same : a ≡ w). let passes : p a ≡ true = ap p same ∙ here in rw passes (ap Some same))
    (λ (other : a ≡ w → ⊥).
    let less : a < w = ⊎_elim (λ lt. lt) (λ ge. absurd (other (omega arith))) (cases_lt a w) in
    let fails : p a ≡ false = before a (omega arith) less in
    rw fails (find_range p (a + 1) n w (omega arith) (omega arith) here (λ v from to. before v (omega arith) to)))
    (cases_eq a w)

-- what holds of all that the numbers give
pub All-range : {X : Type 0} (P : X → Type 0) (f : ℕ → List X) (a n : ℕ)
    → ((i : ℕ) → a ≤ i → i < a + n → All P (f i)) → All P (flat_map f (range_with_len a n))
All-range P f a zero each = All-nil P
All-range P f a (suc n) each =
    All-append P (f a) (flat_map f (range_with_len (a + 1) n)) (each a (omega arith) (omega arith))
    (All-range P f (a + 1) n (λ i from to. each i (omega arith) (omega arith)))

-- which numbers they are
pub number_at : (n k d : ℕ) → k < length (range_with_len 1 n) → (get_or (range_with_len 1 n) k d ≡ 1 + k) × (k < n)
number_at n k d within =
    let low : k < n = omega (arith, length-range_with_len 1 n) in
    (get_or-range_with_len 1 n k d low, low)

pub has_number : (n x : ℕ) → 0 < x → x ≤ n → Contains (range_with_len 1 n) x
has_number n x some few = (
  x - 1,
  omega (arith, length-range_with_len 1 n),
  get_or-range_with_len 1 n (x - 1) x (omega arith) ∙ (let e : 1 + (x - 1) ≡ x = omega arith in e),
)
