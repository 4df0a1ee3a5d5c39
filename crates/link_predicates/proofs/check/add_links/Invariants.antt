use Rattle.std.proofs.Common.{◌≡◌, ◌++◌, flat_map, take}
use Rattle.topology.specs.Graph.{node_bound}
use Rattle.reset_machine.proofs.NearSeen.{at_indexes}
use Rattle.reset_model.specs.View.{near_of}
use Rattle.link_predicates.specs.Faults.{link_faults}
use Rattle.link_predicates.proofs.check.add_links.Given as goal

-- the faults of the links to the neighbours before the index were added
abbrev pub invariant-loop-near : goal.invariant-loop-near
invariant-loop-near g l =
    let app = g.P.Application.app in
    l.found.items
    ≡ l.initial.found.items
    ++ flat_map (link_faults app (node_bound l.config.graph) l.config.modulus l.own)
    (at_indexes (near_of app l.config) l.config.graph.ids (take l.near-index l.near-items))
