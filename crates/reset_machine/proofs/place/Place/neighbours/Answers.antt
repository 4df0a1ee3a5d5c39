use Rattle.std.proofs.Common.{ap, ◌∙◌}
use Rattle.topology.specs.Graph.{neighbours_of}
use Rattle.reset_model.proofs.Positions.{id_at-position}
use Rattle.reset_machine.proofs.place.Place.neighbours.Goals as goal

pub returns-clause-ids : goal.returns-clause-ids
returns-clause-ids g c =
    let place = c.self.inside in
    let graph = place.nodes.now.graph in
    let near = rw c.topology.ensures at c.neighbours.ensures.ids in
    rw (← c.self.view_is)
    (near ∙ ap (neighbours_of graph) (id_at-position graph.ids place.index place.id c.self.invariant.0))
