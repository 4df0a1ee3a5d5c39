-- Tables of openings.
use Rattle.std.proofs.Common.{◌≡◌, ℕ, zero, suc, ◌==◌, Bool, true, false, List, [], ◌∷◌, ◌++◌, slice_index_or}
use Rattle.std.proofs.Common.{position, Some, refl, sym, ap, ◌∙◌}
use Rattle.std.proofs.lemmas.Bool.{eqb-true, eq-eqb}
use Rattle.std.proofs.lemmas.List.Quantifiers.{position-Some}

-- a 0 more tells nothing more
pub zero_more : (xs : List ℕ) (k : ℕ) → slice_index_or (xs ++ 0 ∷ []) k 0 ≡ slice_index_or xs k 0
zero_more [] zero = refl
zero_more [] (suc k) = refl
zero_more (x ∷ xs) zero = refl
zero_more (x ∷ xs) (suc k) = zero_more xs k

same_tests : (a b : Bool) → (a ≡ true → b ≡ true) → (b ≡ true → a ≡ true) → a ≡ b
same_tests true b f h = sym (f refl)
same_tests false true f h = h refl
same_tests false false f h = refl

-- two ids have one place exactly where they are one id
pub same_place : (ids : List ℕ) (i at k ix : ℕ) → position (λ j. j == i) ids ≡ Some k → position (λ j. j == at) ids
    ≡ Some ix → (k == ix) ≡ (at == i)
same_place ids i at k ix found there =
    let own = eqb-true _ _ (position-Some (λ j. j == i) ids k 0 found).1 in
    let other = eqb-true _ _ (position-Some (λ j. j == at) ids ix 0 there).1 in
    same_tests (k == ix) (at == i)
    (λ same. eq-eqb at i (sym other ∙ ap (λ n. slice_index_or ids n 0) (sym (eqb-true k ix same)) ∙ own))
    (λ same. eq-eqb k ix (some_is k ix (sym found ∙ ap (λ n. position (λ j. j == n) ids) (sym (eqb-true at i same))
    ∙ there)))
  where
    some_is : (a b : ℕ) → Some a ≡ Some b → a ≡ b
    some_is a b e = cc
