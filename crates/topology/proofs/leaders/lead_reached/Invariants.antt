use Rattle.std.proofs.Common.{◌-◌, ◌≤◌, length, map}
use Rattle.std.specs.Vec.{vec_capacity}
use Rattle.topology.proofs.Flooding.{AreFollowing}
use Rattle.topology.proofs.leaders.lead_reached.Given as goal

abbrev pub invariant-loop-place : goal.invariant-loop-place
invariant-loop-place l = record {
  following :
      AreFollowing (length l.near) (map (λ row. row.items) l.near) l.start l.place l.fn.leaders l.leaders l.reached.items;
  capacity : length l.near ≤ vec_capacity l.reached;
}

abbrev pub decreases-loop-place : goal.decreases-loop-place
decreases-loop-place l = length l.near - l.place
