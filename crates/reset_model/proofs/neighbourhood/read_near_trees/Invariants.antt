use Rattle.std.proofs.Common.{◌≡◌, take}
use Rattle.reset_model.specs.View.{near_trees}
use Rattle.reset_model.proofs.neighbourhood.read_near_trees.Given as goal

-- those before the index are read
abbrev pub invariant-loop-other : goal.invariant-loop-other
invariant-loop-other g l = l.trees.items ≡ near_trees (take l.other-index l.near)
