use Rattle.std.proofs.Common.{◌≡◌, take}
use Rattle.node_threads.proofs.closing.same_receipts.Given as goal

-- the receipts before the index are the same
abbrev pub invariant-loop-index : goal.invariant-loop-index
invariant-loop-index l = take l.index l.a ≡ take l.index l.b
