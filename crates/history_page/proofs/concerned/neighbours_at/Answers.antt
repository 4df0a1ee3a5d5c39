use Rattle.std.proofs.Common.{None, Some, sym, ap, ◌∙◌}
use Rattle.topology.specs.Graph.{neighbours_of}
use Rattle.link_predicates.proofs.NodeFaults.{found_node, no_node}
use Rattle.history_page.proofs.Neighbours.{no_neighbours}
use Rattle.history_page.proofs.concerned.neighbours_at.Goals as goal

pub returns-in-Some-clause-ids : goal.returns-in-Some-clause-ids
returns-in-Some-clause-ids c =
    let g = c.args.topology.now in
    c.neighbours.ensures.ids
    ∙ ap (neighbours_of g) (found_node g c.args.at (Some c.in-Some.index) c.in-Some.ensures).2

pub returns-in-None-clause-ids : goal.returns-in-None-clause-ids
returns-in-None-clause-ids c =
    let g = c.args.topology.now in
    let graph = c.lemma_is_graph.ensures.graph in
    sym (no_neighbours g graph c.args.at (no_node g graph c.args.at None c.in-None.ensures))
