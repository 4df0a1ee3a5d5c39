-- Each node of a shape but the first is linked with one or two lesser nodes.
use Rattle.std.proofs.Common.{◌≡◌, ℕ, zero, suc, ◌+◌, ◌-◌, ◌*◌, ◌%◌, ◌<◌, ◌≤◌, ◌==◌, Bool, true, false, min, max}
use Rattle.std.proofs.Common.{nat_lt, if◌then◌else◌, List, [], ◌∷◌, ◌++◌, nat_le, Some, refl, arith, unwrap_or}
use Rattle.std.specs.List.{find, range_with_len}
use Rattle.std.proofs.Math.Nat.{mod-eq_of_lt}
use Rattle.std.proofs.lemmas.Bool.{eqb-true, eqb-false, ltb-true, ltb-false, le-ltb, ne_eqb}
use Rattle.std.proofs.lemmas.Nat.{mod_below}
use Rattle.network_shapes.specs.Shapes.{both, drawn_below, grid_neighbours, grid_width, lesser_nodes, word_at}
use Rattle.network_shapes.specs.declared.shape.Shape.{Shape}
use Rattle.network_shapes.specs.declared.shape.Shape.TheVariants.{Ring, Path, Star, Grid, Tree, Random}

-- one or two nodes below this one, ascending
abbrev pub AreLesser : ℕ → List ℕ → Type 0
AreLesser node [] = ⊥
AreLesser node (a ∷ []) = (0 < a) × (a < node)
AreLesser node (a ∷ b ∷ []) = (0 < a) × (a < b) × (b < node)
AreLesser node (a ∷ b ∷ c ∷ others) = ⊥

either : (t : Bool) (node : ℕ) (xs ys : List ℕ) → (t ≡ true → AreLesser node xs) → (t ≡ false → AreLesser node ys)
    → AreLesser node (if t then xs else ys)
either true node xs ys first second = first refl
either false node xs ys first second = second refl

both_lesser : (node a b : ℕ) → 0 < a → a < node → 0 < b → b < node → AreLesser node (both a b)
both_lesser node a b a_some a_low b_some b_low =
    either (a == b) node (a ∷ []) (min a b ∷ max a b ∷ []) (λ same. (a_some, a_low))
    (λ other. let apart : a ≡ b → ⊥ = eqb-false a b other in (omega arith, omega arith, omega arith))

grid_lesser : (node width : ℕ) → 0 < width → 2 ≤ node → (below first : Bool) → nat_lt width node ≡ below
    → ((node - 1) % width == 0) ≡ first
    → AreLesser node ((if below then (node - width) ∷ [] else []) ++ (if first then [] else (node - 1) ∷ []))
grid_lesser node width wide two true true is_below is_first =
    let less : width < node = ltb-true width node is_below in
    (omega arith, omega arith)
grid_lesser node width wide two true false is_below is_first =
    let less : width < node = ltb-true width node is_below in
    let some : (node - 1) % width ≡ 0 → ⊥ = eqb-false ((node - 1) % width) 0 is_first in
    let small : (node - 1) % width < width = mod_below (node - 1) width wide in
    (omega arith, omega arith, omega arith)
grid_lesser node width wide two false true is_below is_first =
    let few : node ≤ width = ltb-false width node is_below in
    let none : (node - 1) % width ≡ 0 = eqb-true ((node - 1) % width) 0 is_first in
    let same : (node - 1) % width ≡ node - 1 = mod-eq_of_lt (let less : node - 1 < width = omega arith in less) in
    absurd (omega arith)
grid_lesser node width wide two false false is_below is_first = (omega arith, omega arith)

-- the first row: no node is above it
pub first_row : (node width : ℕ) → 2 ≤ node → node ≤ width → (node - 1) ∷ [] ≡ grid_neighbours width node
first_row node width two few =
    let same : (node - 1) % width ≡ node - 1 = mod-eq_of_lt (let less : node - 1 < width = omega arith in less) in
    let some : (node - 1) % width ≡ 0 → ⊥ = λ none. absurd (omega arith) in
    rw (le-ltb width node few, ne_eqb ((node - 1) % width) 0 some)

found_wide : (p : ℕ → Bool) (a n : ℕ) → 0 < a → 0 < unwrap_or (find p (range_with_len a n)) 1
found_wide p a zero some = omega arith
found_wide p a (suc n) some = choose (p a) (found_wide p (a + 1) n (omega arith))
  where
    choose : (t : Bool) → 0 < unwrap_or (find p (range_with_len (a + 1) n)) 1
        → 0 < unwrap_or (if t then Some a else find p (range_with_len (a + 1) n)) 1
    choose true later = some
    choose false later = later

drawn_lesser : (node word : ℕ) → 2 ≤ node → (0 < drawn_below node word) × (drawn_below node word < node)
drawn_lesser node word two =
    let small : word % (node - 1) < node - 1 = mod_below word (node - 1) (omega arith) in
    (omega arith, omega arith)

pub lesser_nodes-are : (shape : Shape) (count seed node : ℕ) → 2 ≤ node → node ≤ count
    → AreLesser node (lesser_nodes shape count seed node)
lesser_nodes-are Ring count seed node two within =
    either (node == count) node (both 1 (node - 1)) ((node - 1) ∷ [])
    (λ last. both_lesser node 1 (node - 1) (omega arith) (omega arith) (omega arith) (omega arith))
    (λ before. (omega arith, omega arith))
lesser_nodes-are Path count seed node two within = (omega arith, omega arith)
lesser_nodes-are Star count seed node two within = (omega arith, omega arith)
lesser_nodes-are Grid count seed node two within =
    grid_lesser node (grid_width count) (found_wide (λ width. nat_le count (width * width)) 1 count (omega arith)) two
    (nat_lt (grid_width count) node) ((node - 1) % grid_width count == 0) refl refl
lesser_nodes-are Tree count seed node two within = (omega arith, omega arith)
lesser_nodes-are Random count seed node two within =
    let first = drawn_lesser node (word_at seed (2 * (node - 2))) two in
    let second = drawn_lesser node (word_at seed (2 * (node - 2) + 1)) two in
    both_lesser node (drawn_below node (word_at seed (2 * (node - 2))))
    (drawn_below node (word_at seed (2 * (node - 2) + 1))) first.0 first.1 second.0 second.1
