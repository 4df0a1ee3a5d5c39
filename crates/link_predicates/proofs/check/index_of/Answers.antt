use Rattle.std.proofs.Common.{ap, ◌∙◌}
use Rattle.topology.specs.Graph.{Graph, node_at}
use Rattle.link_predicates.proofs.NodeFaults.{found_node, no_node}
use Rattle.link_predicates.proofs.check.index_of.Goals as goal

pub returns-clause-found : goal.returns-clause-found
returns-clause-found g c =
    found_node c.args.config.now.graph c.args.at c.node_at.result
    (c.node_at.ensures ∙ ap (λ (graph : Graph). node_at graph c.args.at) c.topology.ensures)

pub returns-clause-none : goal.returns-clause-none
returns-clause-none g c =
    no_node c.args.config.now.graph c.lemma_is_graph.ensures.graph c.args.at c.node_at.result
    (c.node_at.ensures ∙ ap (λ (graph : Graph). node_at graph c.args.at) c.topology.ensures)
