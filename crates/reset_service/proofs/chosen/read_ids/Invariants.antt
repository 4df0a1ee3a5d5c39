-- The identifiers that were read, and what is left.
use Rattle.std.proofs.Common.{length}
use Rattle.reset_service.proofs.Choosing.{AreRead}
use Rattle.reset_service.proofs.chosen.read_ids.Given as goal

abbrev pub invariant-loop-number : goal.invariant-loop-number
invariant-loop-number l = AreRead l.text l.rest l.ids.items

abbrev pub decreases-loop-number : goal.decreases-loop-number
decreases-loop-number l = length l.rest
