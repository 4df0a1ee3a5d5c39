-- Filters, and counts of what they leave.
use Rattle.std.proofs.Common.{◌≡◌, ◌+◌, Bool, true, false, ◌&&◌, cond, List, [], ◌∷◌, ◌++◌, refl, sym, ap, ap₂, ◌∙◌}
use Rattle.std.proofs.Common.{arith}
use Rattle.std.specs.List.{count_by, filter}
use Rattle.std.proofs.lemmas.List.Sums.{sum_by-cons}
use Rattle.app_token.specs.LawsOfSums.{number_of}

pub same_filter : {X : Type 0} (p q : X → Bool) (xs : List X) → ((x : X) → p x ≡ q x) → filter p xs ≡ filter q xs
same_filter p q [] same = refl
same_filter p q (x ∷ xs) same = ap₂ (λ b ys. cond b (x ∷ ys) ys) (same x) (same_filter p q xs same)

-- what two filters leave
pub filter_twice : {X : Type 0} (p q : X → Bool) (xs : List X) → filter p (filter q xs) ≡ filter (λ x. q x && p x) xs
filter_twice p q [] = refl
filter_twice {X = X} p q (x ∷ xs) = at (q x) (p x) (filter_twice p q xs) refl
  where
    at : (b c : Bool) → filter p (filter q xs) ≡ filter (λ x. q x && p x) xs → p x ≡ c →
        filter p (cond b (x ∷ filter q xs) (filter q xs))
        ≡ cond (b && c) (x ∷ filter (λ x. q x && p x) xs) (filter (λ x. q x && p x) xs)
    at true true more is = rw is (ap (λ ys. x ∷ ys) more)
    at true false more is = rw is more
    at false c more is = more

-- one more item
pub filter_push : {X : Type 0} (p : X → Bool) (xs : List X) (x : X)
    → filter p (xs ++ x ∷ []) ≡ filter p xs ++ cond (p x) (x ∷ []) []
filter_push p [] x = refl
filter_push {X = X} p (y ∷ xs) x = at (p y) (filter_push p xs x)
  where
    at : (b : Bool) → filter p (xs ++ x ∷ []) ≡ filter p xs ++ cond (p x) (x ∷ []) [] →
        cond b (y ∷ filter p (xs ++ x ∷ [])) (filter p (xs ++ x ∷ []))
        ≡ cond b (y ∷ filter p xs) (filter p xs) ++ cond (p x) (x ∷ []) []
    at true more = ap (λ ys. y ∷ ys) more
    at false more = more

-- a count of what a filter leaves
pub count_filtered : {X : Type 0} (p q : X → Bool) (xs : List X)
    → count_by p (filter q xs) ≡ count_by (λ x. q x && p x) xs
count_filtered p q [] = refl
count_filtered {X = X} p q (x ∷ xs) = at (q x) (count_filtered p q xs) ∙ sym (sum_by-cons (λ y. number_of (q y && p y)) x xs)
  where
    at : (b : Bool) → count_by p (filter q xs) ≡ count_by (λ x. q x && p x) xs →
        count_by p (cond b (x ∷ filter q xs) (filter q xs))
        ≡ number_of (b && p x) + count_by (λ x. q x && p x) xs
    at true more = sum_by-cons (λ y. number_of (p y)) x (filter q xs) ∙ ap (λ n. number_of (p x) + n) more
    at false more = omega (arith, more)

pub same_count : {X : Type 0} (p q : X → Bool) (xs : List X) → ((x : X) → p x ≡ q x) → count_by p xs ≡ count_by q xs
same_count p q [] same = refl
same_count p q (x ∷ xs) same =
    sum_by-cons (λ y. number_of (p y)) x xs ∙ ap₂ (λ b n. number_of b + n) (same x) (same_count p q xs same)
    ∙ sym (sum_by-cons (λ y. number_of (q y)) x xs)
