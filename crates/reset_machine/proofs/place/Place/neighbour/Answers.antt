use Rattle.reset_model.proofs.Positions.{id_at-position}
use Rattle.reset_machine.proofs.place.Place.neighbour.Goals as goal

pub returns-clause-found : goal.returns-clause-found
returns-clause-found g c =
    let place = c.self.inside in
    let ids = place.nodes.now.graph.ids in
    let found = rw c.topology.ensures at c.neighbour_at.ensures.found in
    rw (← c.self.view_is) (rw (id_at-position ids place.index place.id c.self.invariant.0) at found)

pub returns-clause-none : goal.returns-clause-none
returns-clause-none g c =
    let place = c.self.inside in
    let ids = place.nodes.now.graph.ids in
    let none = rw c.topology.ensures at c.neighbour_at.ensures.none in
    rw (← c.self.view_is) (rw (id_at-position ids place.index place.id c.self.invariant.0) at none)
