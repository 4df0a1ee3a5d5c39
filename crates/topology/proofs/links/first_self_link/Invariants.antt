use Rattle.std.proofs.Common.{◌≢◌, All, take}
use Rattle.topology.proofs.links.first_self_link.Given as goal

abbrev pub invariant-loop-a : goal.invariant-loop-a
invariant-loop-a l = All (λ p. p.0 ≢ p.1) (take l.a-index l.links)
