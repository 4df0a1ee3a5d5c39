use Rattle.std.proofs.Common.{◌≡◌, take}
use Rattle.reset_model.specs.View.{near_of}
use Rattle.reset_machine.proofs.NearSeen.{at_indexes}
use Rattle.reset_machine.proofs.node_view.are_near.Given as goal

-- the neighbours before the number are these
abbrev pub invariant-loop-number : goal.invariant-loop-number
invariant-loop-number g l =
    let config = l.place.config in
    take l.number l.near ≡ at_indexes (near_of g.P.Application.app config) config.graph.ids (take l.number l.indexes)
