use Rattle.std.proofs.Common.{sym, slice_index}
use Rattle.reset_model.proofs.Judging.{read_at-place}
use Rattle.reset_machine.proofs.place.Place.local_at.Goals as goal

pub returns : goal.returns
returns g c =
    let now = c.self.inside.nodes.now in
    let ids = now.graph.ids in
    let short = rw (← c.self.view_is) at c.requires in
    let read = rw c.locals.ensures.value at c.index-locals-index.is in
    rw (← c.self.view_is)
    (sym (read_at-place (g.P.Application.app.start now.graph (slice_index ids c.args.index)) ids now.locals
    c.args.index _ c.lemma_is_graph.ensures.graph.ascending c.locals.ensures.shaped.locals short read))
