use Rattle.std.proofs.Common.{◌≡◌, take}
use Rattle.node_threads.specs.Seats.{of_node}
use Rattle.node_threads.proofs.closing.of_node.Given as goal

abbrev pub invariant-loop-receipt : goal.invariant-loop-receipt
invariant-loop-receipt l = l.own.items ≡ of_node l.node (take l.receipt-index l.told)
