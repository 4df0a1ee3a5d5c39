use Rattle.reset_model.proofs.Positions.{read_at-position}
use Rattle.reset_machine.proofs.place.Place.local.Goals as goal

pub returns : goal.returns
returns g c =
    let place = c.self.inside in
    let now = place.nodes.now in
    let read = rw c.locals.ensures.value at c.index-locals-self.is in
    rw (← c.self.view_is)
    (read_at-position (g.P.Application.app.start now.graph place.id) now.graph.ids now.locals place.index place.id _
    c.locals.ensures.shaped.locals c.self.invariant.0 read)
