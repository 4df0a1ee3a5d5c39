use Rattle.std.proofs.Common.{is_some, ap, ◌∙◌}
use Rattle.topology.specs.Graph.{Graph, node_at}
use Rattle.fault_inject.proofs.FoundNodes.{node_tested}
use Rattle.fault_inject.proofs.effects.is_node.Goals as goal

pub returns : goal.returns
returns g c =
    let index : Graph → _ = λ graph. node_at graph c.args.at in
    c.is_some.ensures ∙ ap is_some (c.node_at.ensures ∙ ap index c.topology.ensures)
    ∙ node_tested c.args.config.now.graph c.lemma_is_graph.ensures.graph c.args.at
