-- Sums over the nodes of a graph, of two functions that differ at one node or at one pair.
use Rattle.std.proofs.Common.{◌≡◌, ◌≢◌, ℕ, zero, suc, ◌+◌, ◌<◌, ◌≤◌, Bool, ◌==◌, cond, List, [], ◌∷◌, length, get_or}
use Rattle.std.proofs.Common.{refl, sym, ap, ap₂, ◌∙◌, subst, arith, eq-eqb, ne_eqb}
use Rattle.std.specs.List.{count_by, sum_by}
use Rattle.std.proofs.lemmas.List.{get_or_default}
use Rattle.std.proofs.lemmas.List.Sums.{get_or-le-sum_by, sum_by-cons}
use Rattle.topology.specs.Graph.{Graph, IsGraph, IsNode}
use Rattle.topology.proofs.Ascending.{index_once}

abbrev pub number_of : Bool → ℕ
number_of b = cond b 1 0

same_sums : (f h : ℕ → ℕ) (xs : List ℕ) → ((k : ℕ) → k < length xs → h (get_or xs k 0) ≡ f (get_or xs k 0))
    → sum_by h xs ≡ sum_by f xs
same_sums f h [] e = refl
same_sums f h (x ∷ xs) e =
    sum_by-cons h x xs ∙ ap₂ (λ a b. a + b) (e 0 (omega arith)) (same_sums f h xs (λ k lt. e (suc k) (omega arith)))
    ∙ sym (sum_by-cons f x xs)

other_sums : (f h : ℕ → ℕ) (xs : List ℕ) (k : ℕ) → k < length xs
    → ((m : ℕ) → m ≢ k → m < length xs → h (get_or xs m 0) ≡ f (get_or xs m 0)) →
    sum_by h xs + f (get_or xs k 0) ≡ sum_by f xs + h (get_or xs k 0)
other_sums f h [] k lt e = absurd (omega arith)
other_sums f h (x ∷ xs) zero lt e =
    omega (
      arith,
      sum_by-cons h x xs,
      sum_by-cons f x xs,
      same_sums f h xs
          (λ m lt. e (suc m) (omega arith) (omega arith)),
    )
other_sums f h (x ∷ xs) (suc k) lt e =
    omega (
      arith,
      sum_by-cons h x xs,
      sum_by-cons f x xs,
      e 0 (omega arith) (omega arith),
      other_sums f h xs k (omega arith) (λ m ne lt. e (suc m) (omega (arith, ne)) (omega arith)),
    )

module _ (g : Graph) where
  -- what stands in the list of nodes is one
  node_at : (k : ℕ) → k < length g.nodes → IsNode g (get_or g.nodes k 0)
  node_at k lt = (k, lt, get_or_default g.nodes k _ 0 lt)

  -- the same terms at the nodes have the same sum
  pub same_sum : (f h : ℕ → ℕ) → ((j : ℕ) → IsNode g j → h j ≡ f j) → sum_by h g.nodes ≡ sum_by f g.nodes
  same_sum f h e = same_sums f h g.nodes (λ k lt. e _ (node_at k lt))

  -- where one term alone changes, the sum changes by it
  pub sum_at : IsGraph g → (f h : ℕ → ℕ) (i : ℕ) → IsNode g i → ((j : ℕ) → IsNode g j → j ≢ i → h j ≡ f j)
      → sum_by h g.nodes + f i ≡ sum_by f g.nodes + h i
  sum_at are f h i node e =
      let at : get_or g.nodes node.0 0 ≡ i = get_or_default g.nodes node.0 0 i node.1 ∙ node.2 in
      subst (λ j. sum_by h g.nodes + f j ≡ sum_by f g.nodes + h j) at
      (other_sums f h g.nodes node.0 node.1
      (λ m ne lt. e _ (node_at m lt) (λ same. ne (index_once g.nodes are.rising m node.0 lt node.1 (same ∙ sym at)))))

  -- a sum has the term of each node in it
  pub term_in_sum : (f : ℕ → ℕ) (i : ℕ) → IsNode g i → f i ≤ sum_by f g.nodes
  term_in_sum f i node =
      subst (λ j. f j ≤ sum_by f g.nodes) (get_or_default g.nodes node.0 0 i node.1 ∙ node.2)
      (get_or-le-sum_by f g.nodes node.0 0 node.1)

  -- and those of two nodes side by side
  pub two_terms_in_sum : IsGraph g → (f : ℕ → ℕ) (i j : ℕ) → IsNode g i → IsNode g j → j ≢ i
      → f i + f j ≤ sum_by f g.nodes
  two_terms_in_sum are f i j at to ne =
      -- the sum of the terms but that of i
      let rest : ℕ → ℕ = λ k. cond (k == i) 0 (f k) in
      let here : rest i ≡ 0 = ap (λ b. cond b 0 (f i)) (eq-eqb i i refl) in
      let there : (k : ℕ) → k ≢ i → rest k ≡ f k = λ k other. ap (λ b. cond b 0 (f k)) (ne_eqb k i other) in
      omega (arith, sum_at are f rest i at (λ k node other. there k other), here, there j ne, term_in_sum rest j to)

  -- the number of pairs that pass a test, where the test changes at one pair alone
  pub pairs_at : IsGraph g → (p q : ℕ → ℕ → Bool) (a b : ℕ) → IsNode g a → IsNode g b
      → ((c : ℕ) → IsNode g c → c ≢ b → q a c ≡ p a c) →
      ((j c : ℕ) → IsNode g j → IsNode g c → j ≢ a → q j c ≡ p j c) →
      sum_by (λ j. count_by (q j) g.nodes) g.nodes + number_of (p a b)
      ≡ sum_by (λ j. count_by (p j) g.nodes) g.nodes + number_of (q a b)
  pairs_at are p q a b at to row others =
      let one : count_by (q a) g.nodes + number_of (p a b) ≡ count_by (p a) g.nodes + number_of (q a b) =
      sum_at are (λ c. number_of (p a c)) (λ c. number_of (q a c)) b to (λ c node ne. ap number_of (row c node ne)) in
      let all : sum_by (λ j. count_by (q j) g.nodes) g.nodes + count_by (p a) g.nodes
      ≡ sum_by (λ j. count_by (p j) g.nodes) g.nodes + count_by (q a) g.nodes =
      sum_at are (λ j. count_by (p j) g.nodes) (λ j. count_by (q j) g.nodes) a at
      (λ j node ne. same_sum (λ c. number_of (p j c)) (λ c. number_of (q j c))
      (λ c to. ap number_of (others j c node to ne))) in
      omega (arith, one, all)
