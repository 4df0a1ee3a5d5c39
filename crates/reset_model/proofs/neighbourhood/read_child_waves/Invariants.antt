use Rattle.std.proofs.Common.{◌≡◌, ◌==◌, filter, take}
use Rattle.reset_model.specs.View.{near_waves}
use Rattle.reset_model.proofs.neighbourhood.read_child_waves.Given as goal

-- the children before the index are read
abbrev pub invariant-loop-other : goal.invariant-loop-other
invariant-loop-other g l =
    l.children.items ≡ near_waves (filter (λ n. n.tree.father == l.id) (take l.other-index l.near))
