use Rattle.std.proofs.Common.{◌==◌, ap, ◌∙◌}
use Rattle.std.proofs.lemmas.List.{get_or-map}
use Rattle.std.proofs.lemmas.List.Quantifiers.{position-Some}
use Rattle.reset_model.proofs.Positions.{id_at-position}
use Rattle.reset_machine.proofs.place.Place.start.Goals as goal

pub returns : goal.returns
returns g c =
    let place = c.self.inside in
    let graph = place.nodes.now.graph in
    let start = g.P.Application.app.start graph in
    let read = rw c.starts.ensures at c.index-starts-self.is in
    rw (← c.self.view_is)
    (read ∙ get_or-map start graph.ids place.index 0 _
    (position-Some (λ i. i == place.id) graph.ids place.index 0 c.self.invariant.0).0
    ∙ ap start (id_at-position graph.ids place.index place.id c.self.invariant.0))
