-- Those before the index are among the others.
use Rattle.std.proofs.Common.{All, Contains, take}
use Rattle.reset_service.proofs.chosen.first_strange.Given as goal

abbrev pub invariant-loop-id : goal.invariant-loop-id
invariant-loop-id l = All (λ id. Contains l.ids id) (take l.id-index l.named)
