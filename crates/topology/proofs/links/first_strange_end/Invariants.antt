use Rattle.std.proofs.Common.{◌≡◌, true, All, take}
use Rattle.topology.specs.Graph.{has}
use Rattle.topology.specs.Faults.{ends_of}
use Rattle.topology.proofs.links.first_strange_end.Given as goal

abbrev pub invariant-loop-a : goal.invariant-loop-a
invariant-loop-a l = All (λ x. has l.ids.ids x ≡ true) (ends_of (take l.a-index l.links))
