use Rattle.std.proofs.Common.{◌≡◌, ◌==◌, ◌||◌, filter, take}
use Rattle.topology.specs.Graph.{has}
use Rattle.topology.proofs.ids.nodes_with.Given as goal

abbrev pub invariant-loop-other : goal.invariant-loop-other
invariant-loop-other l = l.nodes.items ≡ filter (λ j. has l.members.nodes j || j == l.id) (take l.other-index l.members.ids)
