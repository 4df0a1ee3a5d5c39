use Rattle.std.proofs.Common.{◌≡◌, ℕ, ◌==◌, None, Some, false, true, position, slice_index, sym, subst, ap, ◌∙◌}
use Rattle.std.proofs.lemmas.List.Quantifiers.{position-Some}
use Rattle.topology.specs.Graph.{Graph, are_linked, node_at}
use Rattle.reset_model.proofs.Positions.{id_at-position}
use Rattle.link_predicates.proofs.NodeFaults.{found_node, no_node, unlinked}
use Rattle.link_predicates.proofs.check.ends_of.Goals as goal

pub returns-in-None-clause-none : goal.returns-in-None-clause-none
returns-in-None-clause-none g c =
    let graph = c.args.config.now.graph in
    let are = c.lemma_is_graph.ensures.graph in
    unlinked graph are c.args.at c.args.other
    (no_node graph are c.args.at None
    (sym c.in-None.is ∙ c.node_at.ensures ∙ ap (λ (h : Graph). node_at h c.args.at) c.topology-topology.ensures))

pub returns-in-None-neighbour_at-clause-none : goal.returns-in-None-neighbour_at-clause-none
returns-in-None-neighbour_at-clause-none g c =
    let graph = c.args.config.now.graph in
    let same = c.topology-topology.ensures in
    let index = c.in-Some.index in
    let own = found_node graph c.args.at (Some index)
    (sym c.in-Some.is ∙ c.node_at.ensures ∙ ap (λ (h : Graph). node_at h c.args.at) same) in
    let Unlinked : Graph → Type 0 = λ h. are_linked h (slice_index h.ids index) c.args.other ≡ false in
    let At : ℕ → Type 0 = λ i. are_linked graph i c.args.other ≡ false in
    subst At own.2 (subst Unlinked same c.in-None-neighbour_at.ensures.none)

pub returns-in-Some-neighbour_at-clause-found : goal.returns-in-Some-neighbour_at-clause-found
returns-in-Some-neighbour_at-clause-found g c =
    let graph = c.args.config.now.graph in
    let same = c.topology-topology.ensures in
    let index = c.in-Some.index in
    let near = c.in-Some-neighbour_at.near in
    let own = found_node graph c.args.at (Some index)
    (sym c.in-Some.is ∙ c.node_at.ensures ∙ ap (λ (h : Graph). node_at h c.args.at) same) in
    let Placed : Graph → Type 0 = λ h. position (λ i. i == c.args.other) h.ids ≡ Some near in
    let Linked : Graph → Type 0 = λ h. are_linked h (slice_index h.ids index) c.args.other ≡ true in
    let placed = subst Placed same c.in-Some-neighbour_at.ensures.found.0 in
    let At : ℕ → Type 0 = λ i. are_linked graph i c.args.other ≡ true in
    record {
      within = own.1;
      near_within = (position-Some (λ i. i == c.args.other) graph.ids near 0 placed).0;
      own = own.2;
      other = id_at-position graph.ids near c.args.other placed;
      linked = subst At own.2 (subst Linked same c.in-Some-neighbour_at.ensures.found.1);
    }
