-- Numbers that stand beside values ascend exactly where each is below the next.
use Rattle.std.proofs.Common.{◌≡◌, ℕ, ◌+◌, ◌<◌, ◌≤◌, ◌↔◌, Bool, true, false, IsTrue, List, [], ◌∷◌, length, get_or}
use Rattle.std.proofs.Common.{map, nat_lt, refl, sym, arith}
use Rattle.std.proofs.lemmas.Bool.{ltb-true, ltb-false}
use Rattle.std.proofs.lemmas.List.{length-map}
use Rattle.std.proofs.Math.ListN.{get_or-map}
use Rattle.std.specs.List.{AllAdjacentBelow, IsAllAdjacentAnswer}
use Rattle.std.specs.List.Sorted.{IsStrictlyIncreasing}

-- where some value is there, for what is read past an end
module _ {X : Type 0} (some : X) where
  abbrev numbers : List (ℕ × X) → List ℕ
  numbers items = map (λ c. c.0) items

  abbrev stranger : ℕ × X
  stranger = (0, some)

  -- the numbers at a place and the next
  abbrev RiseAt : List (ℕ × X) → ℕ → Type 0
  RiseAt items k = (get_or items k stranger).0 < (get_or items (k + 1) stranger).0

  rise_at : (items : List (ℕ × X)) (k : ℕ) → get_or (numbers items) k 0 < get_or (numbers items) (k + 1) 0
      → RiseAt items k
  rise_at items k h =
      rw (get_or-map (λ (c : ℕ × X). c.0) items k stranger, get_or-map (λ (c : ℕ × X). c.0) items (k + 1) stranger) at h

  ascends_at : (items : List (ℕ × X)) → AllAdjacentBelow (λ x y. true ≡ nat_lt x.0 y.0) items (length items)
      → IsStrictlyIncreasing (numbers items)
  ascends_at items below k h =
      let inside : k + 1 < length items = simp length-map at h in
      rw (get_or-map (λ (c : ℕ × X). c.0) items k stranger, get_or-map (λ (c : ℕ × X). c.0) items (k + 1) stranger)
      (ltb-true _ _ (sym (below k stranger inside)))

  from_answer : (items : List (ℕ × X)) (answer : Bool)
      → IsAllAdjacentAnswer (λ x y b. b ≡ nat_lt x.0 y.0) items answer → IsTrue answer
      ↔ IsStrictlyIncreasing (numbers items)
  from_answer items true below = (λ _. ascends_at items below, λ _. refl)
  from_answer items false (k, inside, above) = (
    λ wrong. cc,
    λ ascending.
        let high : (get_or items (k + 1) stranger).0 ≤ (get_or items k stranger).0 =
        ltb-false _ _ (sym (above stranger)) in
        let low = rise_at items k (ascending k (rw length-map inside)) in
        absurd (omega arith),
  )

-- the answer of a test of each number against the next
pub ascends_from_answer : {X : Type 0} (items : List (ℕ × X)) (answer : Bool)
    → IsAllAdjacentAnswer (λ x y b. b ≡ nat_lt x.0 y.0) items answer
    → IsTrue answer ↔ IsStrictlyIncreasing (map (λ item. item.0) items)
ascends_from_answer [] true below = (λ _ k h. absurd (omega (arith, h)), λ _. refl)
ascends_from_answer [] false (k, inside, above) = absurd (omega (arith, inside))
ascends_from_answer (item ∷ items) answer told = from_answer item.1 (item ∷ items) answer told
