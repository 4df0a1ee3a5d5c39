use Rattle.std.proofs.Common.{◌≤◌, length, map}
use Rattle.std.specs.Vec.{vec_capacity}
use Rattle.topology.proofs.Leading.{AreLedFrom}
use Rattle.topology.proofs.leaders.fill_leaders.Given as goal

abbrev pub invariant-loop-start : goal.invariant-loop-start
invariant-loop-start l = record {
  led : AreLedFrom (length l.near) (map (λ row. row.items) l.near) l.start l.leaders;
  capacity : length l.near ≤ vec_capacity l.reached;
}
