use Rattle.std.proofs.Common.{◌≡◌, filter, flat_map, take}
use Rattle.topology.specs.Graph.{is_node}
use Rattle.link_predicates.specs.Faults.{node_faults}
use Rattle.link_predicates.proofs.check.check_all.Given as goal

-- the faults of the nodes before the index were added
abbrev pub invariant-loop-index : goal.invariant-loop-index
invariant-loop-index g l =
    l.found.items
    ≡ flat_map (node_faults g.P.Application.app l.config) (filter (is_node l.config.graph) (take l.index l.config.graph.ids))
