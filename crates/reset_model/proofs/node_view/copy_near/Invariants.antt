use Rattle.std.proofs.Common.{◌≡◌, take}
use Rattle.reset_model.proofs.node_view.copy_near.Given as goal

-- the neighbours before the index are copied
abbrev pub invariant-loop-other : goal.invariant-loop-other
invariant-loop-other g l = l.copies.items ≡ take l.other-index l.near
