-- A component of a graph by the graph.
use Rattle.std.proofs.Common.{◌≡◌, ℕ, ◌==◌, Bool, true, false, ◌&&◌, filter, refl, sym, ap, ◌∙◌, subst}
use Rattle.std.proofs.Common.{eqb-true, eq-eqb}
use Rattle.std.specs.Cmp.{both_ways as same_tests}
use Rattle.topology.specs.Components.{component, leader, reaches}
use Rattle.topology.specs.Graph.{Graph, IsGraph, IsNode, IsReached, are_linked, is_node, neighbours_of}
use Rattle.topology.proofs.Components.{component_is, component_nodes, leader_leads, reached_on, reaches_tests, same_leader}
use Rattle.topology.proofs.Membership.{Contains-has}
use Rattle.topology.proofs.OneResult.{up_are_nodes}
use Rattle.topology.proofs.Walks.{reached_back}
use Rattle.app_invariants.proofs.Filters.{filter_twice, same_filter}

module _ (g : Graph) (i : ℕ) (are : IsGraph g) (node : IsNode g i) where
  -- a node of the component has there the neighbours that it has
  pub near_in_part : (j : ℕ) → IsReached g i j → neighbours_of (component g i) j ≡ neighbours_of g j
  near_in_part j there =
      let part = component_is g i are node in
      let same : (c : ℕ) → are_linked (component g i) j c ≡ are_linked g j c =
      λ c. same_tests _ _ (λ e. ((part.same_links j c).0 e).1) (λ e. (part.same_links j c).1 (there, e)) in
      same_filter (are_linked (component g i) j) (are_linked g j) (component g i).ids same
      ∙ ap (filter (are_linked g j)) part.ids

  -- the nodes that walks lead to are those with the same leader
  led_tells : (j : ℕ) → IsNode g j → reaches g i j ≡ (leader g j == leader g i)
  led_tells j at =
      same_tests _ _
      (λ there. eq-eqb _ _ (same_leader g i j are node ((reaches_tests g i j are node).0 there)))
      (λ same.
      let to_leader : IsReached g i (leader g j) =
      subst (IsReached g i) (sym (eqb-true _ _ same)) (leader_leads g i are node).reached in
      (reaches_tests g i j are node).1
      (reached_on g i (leader g j) j to_leader (reached_back g are j (leader g j) (leader_leads g j are at).reached)))

  pub part_nodes : (component g i).nodes ≡ filter (λ j. is_node g j && (leader g j == leader g i)) g.ids
  part_nodes =
      component_nodes g i ∙ ap (filter (reaches g i)) (sym (up_are_nodes g are))
      ∙ filter_twice (reaches g i) (is_node g) g.ids
      ∙ same_filter _ _ g.ids (λ j. at j (is_node g j) refl)
    where
      at : (j : ℕ) (b : Bool) → is_node g j ≡ b → (b && reaches g i j) ≡ (b && (leader g j == leader g i))
      at j true is = led_tells j (Contains-has g.nodes j is)
      at j false is = refl
