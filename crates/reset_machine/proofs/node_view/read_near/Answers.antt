use Rattle.std.proofs.Common.{sym, ◌∙◌, arith}
use Rattle.reset_model.specs.View.{near_of}
use Rattle.reset_machine.proofs.NearSeen.{one_more, same_neighbour}
use Rattle.reset_machine.proofs.node_view.read_near.Goals as goal

pub loop-index-preserved : goal.loop-index-preserved
loop-index-preserved g c =
    let config = c.args.place.now.config in
    one_more (near_of g.P.Application.app config) config.graph.ids c.neighbours-index-items.result.now
    c.loop-index.index-index _ _ _ (omega arith)
    (same_neighbour _ _ _ _ _ _ _ _ (sym c.id_at.ensures) (sym c.tree_at.ensures) (sym c.wave_at.ensures)
    (sym (c.in_ok-local.ensures ∙ c.local_at.ensures))) c.in_ok-push.ensures.items c.loop-index.invariant
