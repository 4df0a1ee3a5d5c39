use Rattle.std.proofs.Common.{◌≡◌, ℕ, Bool, true, false, Option, Some, None, slice_get, slice_index, refl, sym, ap, ◌∙◌}
use Rattle.std.proofs.Common.{true≢false}
use Rattle.std.specs.Option.{IfSome}
use Rattle.std.proofs.lemmas.Option.{get_or_from_slice_get}
use Rattle.topology.specs.Components.{leader}
use Rattle.topology.specs.Graph.{Graph, IsGraph, are_linked, is_node}
use Rattle.topology.proofs.Membership.{has-Contains}
use Rattle.machine_tests.proofs.leader_link.LeaderLinkApplication.on_start.Goals as goal

-- an identifier that is down has no links
no_links : (g : Graph) → IsGraph g → (i j : ℕ) → is_node g i ≡ false → false ≡ are_linked g i j
no_links g graph i j down = at (are_linked g i j) refl
  where
    at : (b : Bool) → are_linked g i j ≡ b → false ≡ are_linked g i j
    at true linked = absurd (true≢false (sym (has-Contains g.nodes i (graph.ends i j linked)) ∙ down))
    at false apart = sym apart

not_linked : (g : Graph) → IsGraph g → (index : ℕ) (up : Bool) → up ≡ is_node g (slice_index g.ids index) → up ≡ false
    → (o : Option ℕ) → slice_get g.ids index ≡ o → IfSome o (λ id. up ≡ are_linked g id (leader g id))
not_linked g graph index up tells down None is = tt
not_linked g graph index up tells down (Some id) is =
    down
    ∙ no_links g graph id (leader g id)
    (ap (is_node g) (sym (get_or_from_slice_get g.ids index id 0 is)) ∙ sym tells ∙ down)

pub returns-else-is_up : goal.returns-else-is_up
returns-else-is_up c =
    let graph = c.args.topology.now in
    not_linked graph c.lemma_is_graph.ensures.graph c.args.index c.is_up.result c.is_up.ensures c.if-is_up.false
    (slice_get graph.ids c.args.index) refl
