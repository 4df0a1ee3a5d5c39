-- The tokens of a component, counted at the nodes that they are at or come to.
use Rattle.std.proofs.Common.{◌≡◌, ℕ, ◌+◌, Bool, true, false, ◌&&◌, List, [], ◌∷◌, refl, sym, ap, ◌∙◌}
use Rattle.std.proofs.Common.{arith}
use Rattle.std.specs.List.{count_by, sum_by}
use Rattle.std.proofs.lemmas.List.Sums.{sum_by-cons}
use Rattle.topology.specs.Components.{component}
use Rattle.topology.specs.Graph.{Graph, IsGraph, IsNode, are_linked, is_node, neighbours_of}
use Rattle.topology.proofs.Components.{component_is}
use Rattle.topology.proofs.Membership.{has-Contains}
use Rattle.topology.proofs.OneResult.{up_are_nodes}
use Rattle.app_token.specs.LawsOfSums.{number_of, same_sum}
use Rattle.app_token.specs.OneToken.{holders, in_flight}
use Rattle.app_token.specs.TokenLinks.{is_in_flight}
use Rattle.app_token.specs.declared.local.TokenLocal.{TokenLocal}
use Rattle.app_invariants.specs.Tokens.{token_count, tokens_at}
use Rattle.app_invariants.proofs.Filters.{count_filtered, same_count}
use Rattle.app_invariants.proofs.Parts.{near_in_part}

-- ---- sums of sums

sum_of_sums : {X : Type 0} (f h : X → ℕ) (xs : List X) → sum_by (λ x. f x + h x) xs ≡ sum_by f xs + sum_by h xs
sum_of_sums f h [] = refl
sum_of_sums f h (x ∷ xs) =
    omega (
      arith,
      sum_by-cons (λ y. f y + h y) x xs,
      sum_by-cons f x xs,
      sum_by-cons h x xs,
      sum_of_sums f h xs,
    )

sum_of_none : {X Y : Type 0} (f : X → Y → ℕ) (xs : List X) → sum_by (λ x. sum_by (f x) []) xs ≡ 0
sum_of_none f [] = refl
sum_of_none {Y = Y} f (x ∷ xs) = omega (arith, sum_by-cons (λ x. sum_by (f x) []) x xs, sum_of_none f xs)

same_terms : {X : Type 0} (f h : X → ℕ) (xs : List X) → ((x : X) → f x ≡ h x) → sum_by f xs ≡ sum_by h xs
same_terms f h [] same = refl
same_terms f h (x ∷ xs) same =
    omega (arith, sum_by-cons f x xs, sum_by-cons h x xs, same x, same_terms f h xs same)

-- the rows of a table add up to what its columns add up to
by_columns : {X Y : Type 0} (f : X → Y → ℕ) (xs : List X) (ys : List Y)
    → sum_by (λ x. sum_by (f x) ys) xs ≡ sum_by (λ y. sum_by (λ x. f x y) xs) ys
by_columns f xs [] = sum_of_none f xs
by_columns f xs (y ∷ ys) =
    same_terms (λ x. sum_by (f x) (y ∷ ys)) (λ x. f x y + sum_by (f x) ys) xs (λ x. sum_by-cons (f x) y ys)
    ∙ sum_of_sums (λ x. f x y) (λ x. sum_by (f x) ys) xs
    ∙ ap (λ n. sum_by (λ x. f x y) xs + n) (by_columns f xs ys)
    ∙ sym (sum_by-cons (λ z. sum_by (λ x. f x z) xs) y ys)

-- ---- the flights to a node

module _ (g : Graph) (are : IsGraph g) (v : ℕ → TokenLocal) where
  flights_to : (b : ℕ)
      → count_by (λ a. in_flight g v a b) g.nodes ≡ count_by (λ a. is_in_flight a b (v a) (v b)) (neighbours_of g b)
  flights_to b =
      ap (count_by (λ a. in_flight g v a b)) (sym (up_are_nodes g are))
      ∙ count_filtered (λ a. in_flight g v a b) (is_node g) g.ids
      ∙ same_count _ _ g.ids (λ a. at a (is_node g a) (are_linked g a b) refl refl)
      ∙ sym (count_filtered (λ a. is_in_flight a b (v a) (v b)) (are_linked g b) g.ids)
    where
      at : (a : ℕ) (n l : Bool) → is_node g a ≡ n → are_linked g a b ≡ l
          → (n && (l && is_in_flight a b (v a) (v b))) ≡ (are_linked g b a && is_in_flight a b (v a) (v b))
      at a true l is linked = ap (λ c. c && is_in_flight a b (v a) (v b)) (sym linked ∙ are.symmetric a b)
      at a false true is linked = absurd (cc (has-Contains g.nodes a (are.ends a b linked)))
      at a false false is linked = ap (λ c. c && is_in_flight a b (v a) (v b)) (sym linked ∙ are.symmetric a b)

  pub tokens_by_node : sum_by (tokens_at g v) g.nodes ≡ token_count g v
  tokens_by_node =
      sum_of_sums (λ b. number_of (v b).hold) (λ b. count_by (λ a. is_in_flight a b (v a) (v b)) (neighbours_of g b)) g.nodes
      ∙ ap (λ n. holders g v + n)
      (same_terms _ _ g.nodes (λ b. sym (flights_to b)) ∙ sym (by_columns (λ a b. number_of (in_flight g v a b)) g.nodes g.nodes))

-- the tokens of a component, by what the nodes have in the graph
pub tokens_of_part : (g : Graph) (i : ℕ) → IsGraph g → IsNode g i → (v : ℕ → TokenLocal)
    → sum_by (tokens_at g v) (component g i).nodes ≡ token_count (component g i) v
tokens_of_part g i are node v =
    let part = component_is g i are node in
    same_sum (component g i) (tokens_at (component g i) v) (tokens_at g v)
    (λ b at. ap (λ near. number_of (v b).hold + count_by (λ a. is_in_flight a b (v a) (v b)) near)
    (sym (near_in_part g i are node b ((part.same_nodes b).0 at))))
    ∙ tokens_by_node (component g i) part.as_graph v
