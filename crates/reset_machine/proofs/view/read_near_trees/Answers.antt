use Rattle.std.proofs.Common.{sym, arith}
use Rattle.reset_model.specs.Configuration.{tree_of}
use Rattle.reset_machine.proofs.Children.{same_pair}
use Rattle.reset_machine.proofs.NearSeen.{one_more}
use Rattle.reset_machine.proofs.view.read_near_trees.Goals as goal

pub loop-near-preserved : goal.loop-near-preserved
loop-near-preserved g c =
    let config = c.args.place.now.config in
    one_more (λ j. (j, tree_of config j)) config.graph.ids c.neighbours-near-items.result.now c.loop-near.near-index _ _
    _ (omega arith)
    (same_pair (sym c.id_at.ensures) (sym c.tree_at.ensures)) c.in_ok-push.ensures.items c.loop-near.invariant
