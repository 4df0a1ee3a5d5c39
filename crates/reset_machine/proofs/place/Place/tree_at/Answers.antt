use Rattle.std.proofs.Common.{sym}
use Rattle.reset_model.proofs.Positions.{value_at-place}
use Rattle.reset_machine.proofs.place.Place.tree_at.Goals as goal

pub returns : goal.returns
returns g c =
    let now = c.self.inside.nodes.now in
    let short = rw (← c.self.view_is) at c.requires in
    rw (← c.self.view_is, c.trees.ensures.value)
    (sym (value_at-place (record { root = 0; father = 0; dist = 0 }) now.graph.ids now.trees c.args.index
    c.lemma_is_graph.ensures.graph.ascending c.trees.ensures.shaped.trees short))
