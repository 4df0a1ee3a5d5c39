use Rattle.std.proofs.Common.{◌≡◌, ◌<◌, ◌≤◌, ◌==◌, ◌&&◌, All, filter, length, map, get_or, take}
use Rattle.topology.specs.Components.{leader}
use Rattle.topology.specs.Graph.{is_node}
use Rattle.app_invariants.proofs.members.members_of.Given as goal

abbrev pub invariant-loop-index : goal.invariant-loop-index
invariant-loop-index l = record {
  nodes : map (λ k. get_or l.topology.ids k 0) l.members.items
      ≡ filter (λ j. is_node l.topology j && (leader l.topology j == l.lead)) (take l.index l.topology.ids);
  within : All (λ k. k < length l.topology.ids) l.members.items;
  few : length l.members.items ≤ l.index;
}
