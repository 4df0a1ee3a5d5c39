-- Nothing is known of the node and of the neighbours before the index.
use Rattle.std.proofs.Common.{◌∷◌, take}
use Rattle.reset_machine.proofs.Doubting.{DoubtsEach}
use Rattle.reset_machine.proofs.ready_set.ReadySet.doubt_around.Given as goal

abbrev pub invariant-loop-near : goal.invariant-loop-near
invariant-loop-near l = DoubtsEach l.fn.self (l.node ∷ take l.near-index l.near-items) l.self
