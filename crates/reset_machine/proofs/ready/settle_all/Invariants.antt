-- What is known is true.
use Rattle.std.proofs.Common.{◌-◌}
use Rattle.reset_machine.specs.Known.{IsKnown}
use Rattle.reset_machine.proofs.ready.settle_all.Given as goal

abbrev pub invariant-loop-index : goal.invariant-loop-index
invariant-loop-index g l = IsKnown g.P.Application.app l.nodes l.standing

abbrev pub decreases-loop-index : goal.decreases-loop-index
decreases-loop-index g l = l.standing.idle - l.standing.ready
