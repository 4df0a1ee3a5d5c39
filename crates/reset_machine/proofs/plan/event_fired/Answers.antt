use Rattle.std.proofs.Common.{◌∙◌}
use Rattle.topology.specs.Graph.{node_bound}
use Rattle.reset_model.specs.Configuration.{tree_of, wave_of}
use Rattle.reset_model.proofs.NodePositions.{no_node}
use Rattle.reset_model.proofs.Planned.{event_fired_at, event_fired-strange_node}
use Rattle.reset_machine.proofs.plan.event_fired.Goals as goal

pub returns-in_default-clause-exact : goal.returns-in_default-clause-exact
returns-in_default-clause-exact g c = λ _.
    let config = c.args.nodes.now in
    let none = rw c.node.ensures at c.in_default.ensures.none in
    event_fired-strange_node config.graph (node_bound config.graph) config.modulus (tree_of config) (wave_of config)
    c.args.event
    (no_node config.graph.nodes _ none)

pub returns-in-Ok-clause-exact : goal.returns-in-Ok-clause-exact
returns-in-Ok-clause-exact g c =
    let found = c.in-Some.ensures.found in
    event_fired_at c.args.nodes.now _ c.args.event _ _ found.0 (found.1 ∙ c.node.ensures) c.named.ensures
    (rw c.node.ensures at c.in-Some.ensures.node) c.in_ok-named.ensures.near
    ∙ c.in-Ok.ensures.exact

pub returns-in-Err-clause-exact : goal.returns-in-Err-clause-exact
returns-in-Err-clause-exact g c = λ other.
    let found = c.in-Some.ensures.found in
    event_fired_at c.args.nodes.now _ c.args.event _ _ found.0 (found.1 ∙ c.node.ensures) c.named.ensures
    (rw c.node.ensures at c.in-Some.ensures.node) c.in_ok-named.ensures.near
    ∙ c.in-Err.ensures.exact other
