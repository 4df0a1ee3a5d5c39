use Rattle.std.proofs.Common.{◌≡◌, take}
use Rattle.reset_model.proofs.node_view.same_near.Given as goal

-- the neighbours before the index are the same
abbrev pub invariant-loop-index : goal.invariant-loop-index
invariant-loop-index g l = take l.index l.a ≡ take l.index l.b
