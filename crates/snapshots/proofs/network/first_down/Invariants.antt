-- What is looked for is among the ends of the links that are left.
use Rattle.std.proofs.Common.{◌≡◌, not, drop}
use Rattle.std.specs.List.{find}
use Rattle.topology.specs.Faults.{ends_of}
use Rattle.snapshots.specs.Items.{has_node}
use Rattle.snapshots.proofs.network.first_down.Given as goal

abbrev pub invariant-loop-a : goal.invariant-loop-a
invariant-loop-a g l =
    find (λ i. not (has_node l.nodes i)) (ends_of l.links)
    ≡ find (λ i. not (has_node l.nodes i)) (ends_of (drop l.a-index l.links))
