-- Nodes that are taken out one by one.
use Rattle.std.proofs.Common.{◌≡◌, ℕ, ◌<◌, Bool, true, false, not, ◌&&◌, ◌==◌, cond, List, [], ◌∷◌, filter}
use Rattle.std.proofs.Common.{refl, ap₂, ◌∙◌, arith}
use Rattle.std.specs.List.{AllByRecursion}
use Rattle.std.proofs.lemmas.Bool.{eq-eqb, ne_eqb, or_left, or_right}
use Rattle.topology.specs.Changing.{without_node}
use Rattle.topology.specs.Graph.{Graph, has, is_node}
use Rattle.topology.proofs.NodeChanges.{node_left}
use Rattle.snapshots.specs.Parts.{without_nodes}
use Rattle.snapshots.proofs.LinkLists.{each_weaker}

-- a list has each of its numbers
pub all_there : (xs : List ℕ) → AllByRecursion (λ x. has xs x ≡ true) xs
all_there [] = tt
all_there (x ∷ xs) = (
  or_left (x == x) (has xs x) (eq-eqb x x refl),
  each_weaker (λ y. has xs y ≡ true) (λ y. has (x ∷ xs) y ≡ true) (λ y there. or_right (x == y) (has xs y) there) xs
      (all_there xs),
)

module _ (named : ℕ → Bool) where
  -- the graph without the node, unless it is named
  abbrev pub unless_named : Graph → ℕ → Graph
  unless_named g x = cond (named x) g (without_node g x)

  -- one is taken out, and then the others
  pub one_by_one : (g : Graph) (x : ℕ) (xs : List ℕ)
      → without_nodes g (filter (λ i. not (named i)) (x ∷ xs))
      ≡ without_nodes (unless_named g x) (filter (λ i. not (named i)) xs)
  one_by_one g x xs = at (filter (λ i. not (named i)) xs) (named x)
    where
      at : (others : List ℕ) (b : Bool)
          → without_nodes g (cond (not b) (x ∷ others) others) ≡ without_nodes (cond b g (without_node g x)) others
      at others true = refl
      at others false = refl

  -- which leaves the others up
  pub others_up : (g : Graph) (x : ℕ) (xs : List ℕ) → AllByRecursion (λ y. x < y) xs
      → AllByRecursion (λ y. is_node g y ≡ true) xs → AllByRecursion (λ y. is_node (unless_named g x) y ≡ true) xs
  others_up g x [] above up = tt
  others_up g x (y ∷ ys) above up = (at (named x), others_up g x ys above.1 up.1)
    where
      at : (b : Bool) → is_node (cond b g (without_node g x)) y ≡ true
      at true = up.0
      at false =
          node_left g x y
          ∙ ap₂ (λ s t. not s && t) (ne_eqb y x (λ same. omega (arith, same, above.0))) up.0
