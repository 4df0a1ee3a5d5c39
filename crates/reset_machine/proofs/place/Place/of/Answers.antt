use Rattle.std.proofs.Common.{sym}
use Rattle.reset_model.proofs.NodePositions.{no_node_placed, node_placed}
use Rattle.reset_machine.proofs.place.Place.of.Goals as goal

pub invariant_of-result : goal.invariant_of-result
invariant_of-result g c =
    let placed =
    node_placed c.args.nodes.now.graph c.args.id _ (rw c.topology.ensures at (sym c.in-Some.ensures)) in
    (placed.1, placed.0)

pub returns-in-Some-clause-node : goal.returns-in-Some-clause-node
returns-in-Some-clause-node g c =
    (node_placed c.args.nodes.now.graph c.args.id _ (rw c.topology.ensures at (sym c.in-Some.ensures))).0

pub returns-in-None-clause-none : goal.returns-in-None-clause-none
returns-in-None-clause-none g c =
    no_node_placed c.args.nodes.now.graph c.lemma_is_graph.ensures.graph c.args.id
    (rw c.topology.ensures at (sym c.in-None.ensures))
