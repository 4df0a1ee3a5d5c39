-- The lanes of those before the index.
use Rattle.std.proofs.Common.{◌≡◌, filter, take}
use Rattle.topology.specs.Graph.{has}
use Rattle.reset_service.proofs.chosen.named_lanes.Given as goal

abbrev pub invariant-loop-id : goal.invariant-loop-id
invariant-loop-id l = l.lanes.items ≡ filter (λ id. has l.named id) (take l.id-index l.ids)
