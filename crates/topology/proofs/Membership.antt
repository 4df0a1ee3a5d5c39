-- Which numbers a list has, as a test.
use Rattle.std.proofs.Common.{◌≡◌, ◌≢◌, ℕ, suc, ◌==◌, Bool, true, false, ◌&&◌, nat_eq, List, [], ◌∷◌, filter, Contains}
use Rattle.std.proofs.Common.{refl, sym, ap, ◌∙◌, ◌⊎◌, inl, inr, arith, true≢false}
use Rattle.std.specs.List.{list_any}
use Rattle.std.proofs.lemmas.Bool.{eq-eqb}
use Rattle.std.proofs.lemmas.Bool.Decides.{eqb_tells}
use Rattle.std.proofs.lemmas.List.Recursion.{or_at}
use Rattle.topology.specs.Graph.{has}

pub has-Contains : (xs : List ℕ) (x : ℕ) → Contains xs x → has xs x ≡ true
has-Contains xs x there =
    or_at (list_any (λ y. y == x)) (λ y. y == x) refl (λ _ _. refl) xs there.0 x there.1 (eq-eqb _ _ there.2)

pub Contains-has : (xs : List ℕ) (x : ℕ) → has xs x ≡ true → Contains xs x
Contains-has [] x there = absurd (true≢false (sym there))
Contains-has (y ∷ ys) x there = first (eqb_tells y x) (Contains-has ys x)
  where
    first : ((nat_eq y x ≡ true) × (y ≡ x)) ⊎ ((nat_eq y x ≡ false) × (y ≢ x)) → (has ys x ≡ true → Contains ys x)
        → Contains (y ∷ ys) x
    first (inl e) more = (0, omega arith, e.1)
    first (inr e) more =
        let rest = more (rw e.0 at there) in
        (suc rest.0, omega (arith, rest.1), rest.2)

and-false : (b : Bool) → (b && false) ≡ false
and-false true = refl
and-false false = refl

-- a filter has what passes and was there
pub has-filter : (p : ℕ → Bool) (xs : List ℕ) (x : ℕ) → has (filter p xs) x ≡ (p x && has xs x)
has-filter p [] x = sym (and-false (p x))
has-filter p (y ∷ ys) x = at (p y) refl (eqb_tells y x) (has-filter p ys x)
  where
    at : (b : Bool) → p y ≡ b → ((nat_eq y x ≡ true) × (y ≡ x)) ⊎ ((nat_eq y x ≡ false) × (y ≢ x))
        → has (filter p ys) x ≡ (p x && has ys x) → has (filter p (y ∷ ys)) x ≡ (p x && has (y ∷ ys) x)
    at true is (inl e) rest = rw (is, e.0) (sym (ap (λ k. p k && true) (sym e.1) ∙ ap (λ b. b && true) is))
    at false is (inl e) rest =
        rw (is, e.0)
        (rest ∙ ap (λ b. b && has ys x) (ap p (sym e.1) ∙ is) ∙ sym (ap (λ b. b && true) (ap p (sym e.1) ∙ is)))
    at true is (inr e) rest = rw (is, e.0) rest
    at false is (inr e) rest = rw (is, e.0) rest
