-- The links of a topology that is built of them, and a graph without some nodes.
use Rattle.std.proofs.Common.{◌≡◌, ℕ, Bool, true, false, not, ◌&&◌, ◌||◌, ◌==◌, List, [], ◌∷◌, Contains}
use Rattle.std.proofs.Common.{refl, sym, ap, ap₂, ◌∙◌, subst, true≢false, ◌⊎◌, inl, inr, ⊎_elim}
use Rattle.std.specs.Cmp.{both_ways}
use Rattle.std.specs.List.{list_any}
use Rattle.std.proofs.lemmas.Bool.{eq-eqb, eqb-true, or_right}
use Rattle.std.proofs.lemmas.List.Folds.{Any-from_list_any, list_any-from_Any}
use Rattle.topology.specs.Building.{joins}
use Rattle.topology.specs.Changing.{without_node}
use Rattle.topology.specs.Faults.{IsGraphOf}
use Rattle.topology.specs.Graph.{Graph, IsGraph, are_linked, has, is_node}
use Rattle.topology.proofs.Inserting.{joins_ends, joins_own}
use Rattle.topology.proofs.NodeChanges.{linked_left, node_left}
use Rattle.topology.proofs.OneResult.{same_ascending}
use Rattle.snapshots.specs.Parts.{without_nodes}

-- ---- the topology of links

joins_turned : (a b : ℕ) → joins a b (b, a) ≡ true
joins_turned a b =
    or_right (b == a && a == b) (b == b && a == a) (ap₂ (λ s t. s && t) (eq-eqb b b refl) (eq-eqb a a refl))

joined_from_contains : (a b : ℕ) (links : List (ℕ × ℕ)) → Contains links (a, b) ⊎ Contains links (b, a)
    → list_any (joins a b) links ≡ true
joined_from_contains a b links (inl at) =
    list_any-from_Any (joins a b) links (at.0, (a, b), at.1, at.2, joins_own a b)
joined_from_contains a b links (inr at) =
    list_any-from_Any (joins a b) links (at.0, (b, a), at.1, at.2, joins_turned a b)

contains_from_joined : (a b : ℕ) (links : List (ℕ × ℕ)) → list_any (joins a b) links ≡ true
    → Contains links (a, b) ⊎ Contains links (b, a)
contains_from_joined a b links e =
    let at = Any-from_list_any (joins a b) links e in
    let P : ℕ × ℕ → Type 0 = λ l. Contains links l in
    let here : Contains links at.1 = (at.0, at.2, at.3) in
    ⊎_elim
    (λ (p : (at.1.0 ≡ a) × (at.1.1 ≡ b)). inl (subst P (ap₂ (λ x y. (x, y)) p.0 p.1) here))
    (λ (p : (at.1.0 ≡ b) × (at.1.1 ≡ a)). inr (subst P (ap₂ (λ x y. (x, y)) p.0 p.1) here))
    (joins_ends a b at.1 at.4)

pub built_links : (ids : List ℕ) (links : List (ℕ × ℕ)) (t : Graph) → IsGraphOf ids links t → (a b : ℕ)
    → are_linked t a b ≡ list_any (joins a b) links
built_links ids links t of a b =
    both_ways (are_linked t a b) (list_any (joins a b) links)
    (λ linked. joined_from_contains a b links ((of.same_links a b).0 linked))
    (λ joined. (of.same_links a b).1 (contains_from_joined a b links joined))

pub built_ids : (g t : Graph) (links : List (ℕ × ℕ)) → IsGraph g → IsGraphOf g.ids links t → t.ids ≡ g.ids
built_ids g t links are of =
    let same : t.nodes ≡ t.ids = of.up in
    same_ascending t.ids g.ids of.as_graph.ascending are.ascending
    (λ z at. (of.same_nodes z).0 (subst (λ xs. Contains xs z) (sym same) at))
    (λ z at. subst (λ xs. Contains xs z) same ((of.same_nodes z).1 at))

-- ---- without some nodes

and_order : (p q r : Bool) → ((not p && q) && not r) ≡ (q && not (p || r))
and_order true true r = refl
and_order true false r = refl
and_order false true r = refl
and_order false false r = refl

links_order : (l p q r s : Bool) → ((l && (not p && not q)) && (not r && not s)) ≡ (l && (not (p || r) && not (q || s)))
links_order false p q r s = refl
links_order true true q r s = refl
links_order true false true true s = refl
links_order true false true false s = refl
links_order true false false r s = refl

and-true : (b : Bool) → b ≡ (b && true)
and-true true = refl
and-true false = refl

turned : (a b : ℕ) → (a == b) ≡ (b == a)
turned a b =
    both_ways (a == b) (b == a) (λ e. eq-eqb b a (sym (eqb-true a b e))) (λ e. eq-eqb a b (sym (eqb-true b a e)))

pub left_ids : (g : Graph) (xs : List ℕ) → (without_nodes g xs).ids ≡ g.ids
left_ids g [] = refl
left_ids g (x ∷ xs) = left_ids (without_node g x) xs

pub left_nodes : (g : Graph) (xs : List ℕ) (j : ℕ) → is_node (without_nodes g xs) j ≡ (is_node g j && not (has xs j))
left_nodes g [] j = and-true (is_node g j)
left_nodes g (x ∷ xs) j =
    left_nodes (without_node g x) xs j
    ∙ ap (λ b. b && not (has xs j)) (node_left g x j ∙ ap (λ b. not b && is_node g j) (turned j x))
    ∙ and_order (x == j) (is_node g j) (has xs j)

pub left_links : (g : Graph) (xs : List ℕ) (a b : ℕ)
    → are_linked (without_nodes g xs) a b ≡ (are_linked g a b && (not (has xs a) && not (has xs b)))
left_links g [] a b = and-true (are_linked g a b)
left_links g (x ∷ xs) a b =
    left_links (without_node g x) xs a b
    ∙ ap (λ l. l && (not (has xs a) && not (has xs b)))
    (linked_left g x a b ∙ ap₂ (λ p q. are_linked g a b && (not p && not q)) (turned a x) (turned b x))
    ∙ links_order (are_linked g a b) (x == a) (x == b) (has xs a) (has xs b)

-- ---- without those that don't pass a test

and-not : (h : Bool) → (h && not h) ≡ false
and-not true = refl
and-not false = refl

pub of_test : (n h : Bool) → (n ≡ true → h ≡ true) → (h && not (not n && h)) ≡ n
of_test true true gives = refl
of_test true false gives = absurd (true≢false (sym (gives refl)))
of_test false h gives = and-not h

pub dropped : (n h : Bool) → h ≡ true → not (not n && h) ≡ n
dropped true h is = refl
dropped false true is = refl
dropped false false is = absurd (true≢false (sym is))
