use Rattle.std.proofs.Common.{◌≡◌, map, slice_index, take}
use Rattle.reset_model.specs.View.{near_of}
use Rattle.reset_machine.proofs.node_view.read_near.Given as goal

-- the neighbours before the index have their registers and their local states
abbrev pub invariant-loop-index : goal.invariant-loop-index
invariant-loop-index g l =
    let config = l.place.config in
    l.near.items
    ≡ map (near_of g.P.Application.app config)
    (map (λ n. slice_index config.graph.ids n) (take l.index-index l.index-items))
