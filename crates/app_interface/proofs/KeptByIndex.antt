-- What a test keeps of a list, where it passes by index.
use Rattle.std.proofs.Common.{◌≡◌, ℕ, zero, suc, ◌<◌, ◌≤◌, Bool, true, false, List, [], ◌∷◌, length, get_or, take, drop}
use Rattle.std.proofs.Common.{refl, ap, arith}
use Rattle.std.specs.List.{filter}

pub keeps_none : {X : Type 0} (p : X → Bool) (xs : List X) (x : X)
    → ((k : ℕ) → k < length xs → p (get_or xs k x) ≡ false) → filter p xs ≡ []
keeps_none p [] x fails = refl
keeps_none p (y ∷ xs) x fails = rw (fails 0 (omega arith)) (keeps_none p xs x (λ k lt. fails (suc k) (omega arith)))

pub keeps_all : {X : Type 0} (p : X → Bool) (xs : List X) (x : X) → ((k : ℕ) → k < length xs → p (get_or xs k x) ≡ true)
    → filter p xs ≡ xs
keeps_all p [] x passes = refl
keeps_all p (y ∷ xs) x passes =
    rw (passes 0 (omega arith)) (ap (λ l. y ∷ l) (keeps_all p xs x (λ k lt. passes (suc k) (omega arith))))

-- what passes up to a place and nowhere from it on
pub keeps_prefix : {X : Type 0} (p : X → Bool) (xs : List X) (i : ℕ) (x : X) → i ≤ length xs
    → ((k : ℕ) → k < i → p (get_or xs k x) ≡ true) →
    ((k : ℕ) → i ≤ k → k < length xs → p (get_or xs k x) ≡ false) → filter p xs ≡ take i xs
keeps_prefix p xs zero x le prefix back = keeps_none p xs x (λ k lt. back k (omega arith) lt)
keeps_prefix p [] (suc i) x le prefix back = absurd (omega arith)
keeps_prefix p (y ∷ xs) (suc i) x le prefix back =
    rw (prefix 0 (omega arith))
    (ap (λ l. y ∷ l)
    (keeps_prefix p xs i x (omega arith) (λ k lt. prefix (suc k) (omega arith))
    (λ k ge lt. back (suc k) (omega arith) (omega arith))))

-- what passes from a place on and nowhere before it
pub keeps_back : {X : Type 0} (p : X → Bool) (xs : List X) (i : ℕ) (x : X) → i ≤ length xs
    → ((k : ℕ) → k < i → p (get_or xs k x) ≡ false) →
    ((k : ℕ) → i ≤ k → k < length xs → p (get_or xs k x) ≡ true) → filter p xs ≡ drop i xs
keeps_back p xs zero x le prefix back = keeps_all p xs x (λ k lt. back k (omega arith) lt)
keeps_back p [] (suc i) x le prefix back = absurd (omega arith)
keeps_back p (y ∷ xs) (suc i) x le prefix back =
    rw (prefix 0 (omega arith))
    (keeps_back p xs i x (omega arith) (λ k lt. prefix (suc k) (omega arith))
    (λ k ge lt. back (suc k) (omega arith) (omega arith)))
