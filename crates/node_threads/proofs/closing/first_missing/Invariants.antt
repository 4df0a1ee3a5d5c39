-- What is left to try gives what all give.
use Rattle.std.proofs.Common.{◌≡◌, drop}
use Rattle.node_threads.specs.Closed.{first_missing}
use Rattle.node_threads.proofs.closing.first_missing.Given as goal

abbrev pub invariant-loop-id : goal.invariant-loop-id
invariant-loop-id g l = first_missing (drop l.id-index l.ids) l.seats ≡ first_missing l.ids l.seats
