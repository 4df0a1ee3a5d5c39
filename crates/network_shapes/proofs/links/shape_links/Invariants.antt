use Rattle.std.proofs.Common.{◌≡◌, ◌-◌, flat_map}
use Rattle.std.specs.List.{range_with_len}
use Rattle.network_shapes.specs.Shapes.{lesser_nodes, links_to}
use Rattle.network_shapes.proofs.links.shape_links.Given as goal

abbrev pub invariant-loop-node : goal.invariant-loop-node
invariant-loop-node l =
    l.links.items
    ≡ flat_map (λ node. links_to node (lesser_nodes l.shape l.count l.seed node)) (range_with_len 2 (l.node - 2))
