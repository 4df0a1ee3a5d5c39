-- The bits of a list after one of them is turned over, whatever the list.
use Rattle.std.proofs.Common.{◌≡◌, ◌≢◌, ℕ, ◌≤◌, Bool, true, false, not, ◌&&◌, ◌||◌, ltb, eqb, List, ◌∷◌, refl, sym, ap₂}
use Rattle.std.proofs.Common.{◌∙◌, arith, eq-eqb, ne_eqb, lt-ltb, le-ltb, ⊎_elim}
use Rattle.std.specs.List.{filter}
use Rattle.std.proofs.Math.Bool.{or-false, or-true}
use Rattle.std.proofs.lemmas.Bool.{cases_order}
use Rattle.std.proofs.lemmas.List.Folds.{list_any-append}
use Rattle.topology.specs.Graph.{has}
use Rattle.topology.proofs.Membership.{has-filter}
use Rattle.app_token.specs.Bits.{toggled, with_id}

-- the members of a list with j
with_members : (ids : List ℕ) (j k : ℕ)
    → has (with_id ids j) k ≡ ((ltb k j && has ids k) || (eqb j k || (ltb j k && has ids k)))
with_members ids j k =
    list_any-append (λ i. eqb i k) (filter (λ i. ltb i j) ids) (j ∷ filter (λ i. ltb j i) ids)
    ∙ ap₂ (λ a b. a || (eqb j k || b)) (has-filter (λ i. ltb i j) ids k) (has-filter (λ i. ltb j i) ids k)

pub toggled_same : (ids : List ℕ) (j : ℕ) → has (toggled ids j) j ≡ not (has ids j)
toggled_same ids j = at (has ids j) refl
  where
    at : (b : Bool) → has ids j ≡ b → has (toggled ids j) j ≡ not (has ids j)
    at true is = rw is (has-filter (λ i. not (eqb i j)) ids j ∙ rw (eq-eqb j j refl) refl)
    at false is = rw is (with_members ids j j ∙ rw (eq-eqb j j refl) (or-true _))

pub toggled_other : (ids : List ℕ) (j k : ℕ) → k ≢ j → has (toggled ids j) k ≡ has ids k
toggled_other ids j k ne = at (has ids j) refl
  where
    at : (b : Bool) → has ids j ≡ b → has (toggled ids j) k ≡ has ids k
    at true is = rw is (has-filter (λ i. not (eqb i j)) ids k ∙ rw (ne_eqb k j ne) refl)
    at false is =
        rw is (with_members ids j k
        ∙ ⊎_elim
        (λ same. absurd (ne same))
        (λ other. ⊎_elim
        (λ low.
        let weak : k ≤ j = omega (arith, low) in
        rw (lt-ltb k j low, ne_eqb j k (λ e. ne (sym e)), le-ltb j k weak) (or-false (has ids k)))
        (λ high.
        let weak : j ≤ k = omega (arith, high) in
        rw (le-ltb k j weak, ne_eqb j k (λ e. ne (sym e)), lt-ltb j k high) refl)
        other)
        (cases_order k j))
