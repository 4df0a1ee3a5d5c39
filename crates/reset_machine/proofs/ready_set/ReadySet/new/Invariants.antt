-- The nodes before this one are in the set, in their order.
use Rattle.std.proofs.Common.{◌≡◌}
use Rattle.std.specs.List.{range_with_len}
use Rattle.reset_machine.proofs.ready_set.ReadySet.new.Given as goal

abbrev pub invariant-loop-node : goal.invariant-loop-node
invariant-loop-node l = l.nodes.keys ≡ range_with_len 0 l.node
