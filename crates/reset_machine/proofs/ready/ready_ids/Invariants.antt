-- The identifiers of the nodes before the index are listed.
use Rattle.std.proofs.Common.{◌≡◌, map, slice_index, take}
use Rattle.reset_machine.proofs.ready.ready_ids.Given as goal

abbrev pub invariant-loop-index : goal.invariant-loop-index
invariant-loop-index l = l.ids.items ≡ map (λ n. slice_index l.topology.ids n) (take l.index-index l.ready)
