-- With the states that are left, it is the configuration with all of them.
use Rattle.std.proofs.Common.{◌≡◌, All, length}
use Rattle.topology.specs.Graph.{IsNode}
use Rattle.snapshots.specs.Parts.{with_states}
use Rattle.snapshots.proofs.configuration.with_states.Given as goal

abbrev pub invariant-loop-node : goal.invariant-loop-node
invariant-loop-node g l = record {
  same : with_states l.config l.nodes.items ≡ with_states l.fn.config l.fn.nodes.items;
  nodes : All (λ node. IsNode l.config.graph node.id) l.nodes.items;
}

abbrev pub decreases-loop-node : goal.decreases-loop-node
decreases-loop-node g l = length l.nodes.items
