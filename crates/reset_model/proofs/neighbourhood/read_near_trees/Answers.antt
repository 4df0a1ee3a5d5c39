use Rattle.std.proofs.Common.{◌++◌, ◌∷◌, ◌∙◌, [], ap}
use Rattle.reset_model.proofs.Collected.{mapped_more}
use Rattle.reset_model.proofs.neighbourhood.read_near_trees.Goals as goal

pub loop-other-preserved : goal.loop-other-preserved
loop-other-preserved g c =
    let trees = c.loop-other.trees.items in
    mapped_more c.args.near.now c.loop-other.other-index c.other-item.result c.loop-other-test.true c.other-item.is
    (λ n. (n.id, n.tree)) _ _ c.loop-other.invariant
    (c.in_ok-push.ensures.items ∙ ap (λ n. trees ++ (n.id, n.tree) ∷ []) c.other.view_is)
