use Rattle.std.proofs.Common.{sym}
use Rattle.reset_model.proofs.Positions.{value_at-position}
use Rattle.reset_machine.proofs.place.Place.tree.Goals as goal

pub returns : goal.returns
returns g c =
    let place = c.self.inside in
    let now = place.nodes.now in
    rw (← c.self.view_is, c.trees.ensures.value)
    (sym (value_at-position (record { root = 0; father = 0; dist = 0 }) now.graph.ids now.trees place.index place.id
    c.trees.ensures.shaped.trees c.self.invariant.0))
