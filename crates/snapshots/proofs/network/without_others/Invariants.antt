-- Without those that are left, it is the topology without all of them; and those that are left are up.
use Rattle.std.proofs.Common.{◌≡◌, ◌<◌, true, not, drop, filter}
use Rattle.std.specs.List.{AllByRecursion}
use Rattle.topology.specs.Graph.{is_node}
use Rattle.snapshots.specs.Items.{has_node}
use Rattle.snapshots.specs.Parts.{without_nodes}
use Rattle.snapshots.proofs.LinkLists.{AreOrdered}
use Rattle.snapshots.proofs.network.without_others.Given as goal

abbrev pub invariant-loop-id : goal.invariant-loop-id
invariant-loop-id g l = record {
  same : without_nodes l.left (filter (λ i. not (has_node l.nodes i)) (drop l.id-index l.ids))
      ≡ without_nodes l.initial.left (filter (λ i. not (has_node l.nodes i)) l.ids);
  up : AllByRecursion (λ i. is_node l.left i ≡ true) (drop l.id-index l.ids);
  rising : AreOrdered (λ x y. x < y) (drop l.id-index l.ids);
}
