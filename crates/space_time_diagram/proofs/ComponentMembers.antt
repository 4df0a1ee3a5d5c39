-- The nodes of a component, which have one leader.
use Rattle.std.proofs.Common.{◌≡◌, ◌≢◌, ℕ, ◌==◌, nat_eq, Bool, true, false, cond, ◌&&◌, ◌||◌, List, [], ◌∷◌, ◌++◌}
use Rattle.std.proofs.Common.{filter, ◌⊎◌, inl, inr, refl, sym, ap, subst, ◌∙◌}
use Rattle.std.specs.List.{flat_map, list_any}
use Rattle.std.proofs.lemmas.Bool.Decides.{eqb_tells}
use Rattle.topology.specs.Components.{component, leader, reaches}
use Rattle.topology.specs.Graph.{Graph, IsGraph, IsNode, IsReached, has, is_node}
use Rattle.topology.proofs.Components.{component_nodes, leader_leads, reached_from_test, reached_node, reached_on}
use Rattle.topology.proofs.Components.{reaches_tests, same_leader}
use Rattle.topology.proofs.Membership.{Contains-has, has-Contains, has-filter}
use Rattle.topology.proofs.Walks.{reached_back}
use Rattle.history.specs.declared.entry.Report.{Report}
use Rattle.space_time_diagram.specs.Completions.{completion, completion_line, piece}
use Rattle.space_time_diagram.specs.Members.{member_piece}

-- ---- the test

member_is : (g : Graph) (i j : ℕ) → is_node (component g i) j ≡ (reaches g i j && is_node g j)
member_is g i j = ap (λ ns. has ns j) (component_nodes g i) ∙ has-filter (reaches g i) g.nodes j

and-false : (b : Bool) → b && false ≡ false
and-false true = refl
and-false false = refl

is_false : (b : Bool) → (b ≡ true → ⊥) → b ≡ false
is_false true not = absurd (not refl)
is_false false not = refl

module _ (g : Graph) (graph : IsGraph g) (i j : ℕ) where
  led_alike : IsNode g i → IsNode g j → leader g i ≡ leader g j → IsReached g i j
  led_alike node other same =
      let up = (leader_leads g i graph node).reached in
      let down = reached_back g graph j (leader g j) (leader_leads g j graph other).reached in
      reached_on g i (leader g j) j (subst (IsReached g i) same up) down

  -- two nodes with one leader are in one component
  pub same_leader_tests : IsNode g i → IsNode g j → (a b : ℕ) → a ≡ leader g i → b ≡ leader g j
      → (a == b) ≡ is_node (component g i) j
  same_leader_tests node other a b of_i of_j = by (eqb_tells a b)
    where
      there : is_node g j ≡ true
      there = has-Contains g.nodes j other

      by : ((nat_eq a b ≡ true) × (a ≡ b)) ⊎ ((nat_eq a b ≡ false) × (a ≢ b)) → (a == b) ≡ is_node (component g i) j
      by (inl t) =
          let reached = (reaches_tests g i j graph node).1 (led_alike node other (sym of_i ∙ t.1 ∙ of_j)) in
          t.0 ∙ sym (member_is g i j ∙ ap (λ r. r && is_node g j) reached ∙ there)
      by (inr t) =
          let apart = is_false (reaches g i j) (λ r. t.1
          (of_i ∙ sym (same_leader g i j graph node (reached_from_test g i j r)) ∙ sym of_j)) in
          t.0 ∙ sym (member_is g i j ∙ ap (λ r. r && is_node g j) apart)

  -- what is no node is in no component, and has none
  pub stranger_tests : (IsNode g j → ⊥) → false ≡ is_node (component g i) j
  stranger_tests strange =
      sym (member_is g i j
      ∙ ap (λ b. reaches g i j && b) (is_false (is_node g j) (λ there. strange (Contains-has g.nodes j there)))
      ∙ and-false (reaches g i j))

  pub strange_tests : (IsNode g i → ⊥) → false ≡ is_node (component g i) j
  strange_tests strange =
      sym (is_false (is_node (component g i) j) (λ there. strange (of (reaches g i j) refl (is_node g j) refl
      (sym (member_is g i j) ∙ there))))
    where
      of : (r : Bool) → reaches g i j ≡ r → (n : Bool) → is_node g j ≡ n → r && n ≡ true → IsNode g i
      of true reached true node both =
          reached_node g j i graph (Contains-has g.nodes j node)
          (reached_back g graph i j (reached_from_test g i j reached))
      of true reached false node both = absurd (cc)
      of false reached n node both = absurd (cc)

-- ---- what is written for the members

-- the pieces of the members, node by node, are those of the nodes that are in the component
pub member_pieces : (lane : ℕ → ℕ) (g : Graph) (i : ℕ) (nodes : List ℕ)
    → flat_map (member_piece lane g i) nodes ≡ flat_map (piece lane) (filter (is_node (component g i)) nodes)
member_pieces lane g i [] = refl
member_pieces lane g i (x ∷ xs) = at (is_node (component g i) x) refl (member_pieces lane g i xs)
  where
    at : (b : Bool) → is_node (component g i) x ≡ b
        → flat_map (member_piece lane g i) xs ≡ flat_map (piece lane) (filter (is_node (component g i)) xs)
        → cond (is_node (component g i) x) (piece lane x) [] ++ flat_map (member_piece lane g i) xs
        ≡ flat_map (piece lane) (filter (is_node (component g i)) (x ∷ xs))
    at true is rest = rw is (ap (λ t. piece lane x ++ t) rest)
    at false is rest = rw is rest

-- a line is across a lane where one of the nodes is in the component, and left out where none is
module _ (lane : ℕ → ℕ) (lanes earlier : ℕ) (r : Report) (p : ℕ → Bool) where
  pub line_where_some : (nodes : List ℕ) → list_any p nodes ≡ true
      → completion_line lane lanes earlier (filter p nodes) r ≡ completion lane lanes earlier (filter p nodes) r
  line_where_some [] some = absurd (cc)
  line_where_some (x ∷ xs) some = at (line_where_some xs) (p x) refl some
    where
      at : (list_any p xs ≡ true
          → completion_line lane lanes earlier (filter p xs) r ≡ completion lane lanes earlier (filter p xs) r)
          → (b : Bool) → p x ≡ b → b || list_any p xs ≡ true
          → completion_line lane lanes earlier (filter p (x ∷ xs)) r
          ≡ completion lane lanes earlier (filter p (x ∷ xs)) r
      at rest true is some = rw is refl
      at rest false is some = rw is (rest some)

  pub nothing_where_none : (nodes : List ℕ) → list_any p nodes ≡ false
      → [] ≡ completion lane lanes earlier (filter p nodes) r
  nothing_where_none [] none = refl
  nothing_where_none (x ∷ xs) none = at (nothing_where_none xs) (p x) refl none
    where
      at : (list_any p xs ≡ false → [] ≡ completion lane lanes earlier (filter p xs) r)
          → (b : Bool) → p x ≡ b → b || list_any p xs ≡ false
          → [] ≡ completion lane lanes earlier (filter p (x ∷ xs)) r
      at rest true is none = absurd (cc)
      at rest false is none = rw is (rest none)
