use Rattle.topology.specs.Graph.{node_bound}
use Rattle.reset_model.specs.Configuration.{local_of, wave_of}
use Rattle.reset_model.proofs.NodePositions.{no_node}
use Rattle.reset_model.proofs.Judging.{acted_of-strange_node}
use Rattle.reset_machine.proofs.action.acted.Goals as goal

pub returns-in_default-clause-exact : goal.returns-in_default-clause-exact
returns-in_default-clause-exact g c = λ _.
    let config = c.args.nodes.now in
    let app = g.P.Application.app in
    acted_of-strange_node app config.graph (node_bound config.graph) (wave_of config) (local_of app config) c.args.at
    c.args.arguments.case c.args.arguments.with (no_node config.graph.nodes c.args.at c.in_default.ensures.none)
