use Rattle.std.proofs.Common.{◌≡◌, ◌-◌}
use Rattle.network_shapes.specs.Shapes.{node_numbers}
use Rattle.network_shapes.proofs.links.node_numbers.Given as goal

abbrev pub invariant-loop-node : goal.invariant-loop-node
invariant-loop-node l = l.nodes.items ≡ node_numbers (l.node - 1)
