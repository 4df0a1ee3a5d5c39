use Rattle.reset_model.proofs.Positions.{position-place}
use Rattle.reset_machine.proofs.place.Place.at.Goals as goal

pub invariant_of-result : goal.invariant_of-result
invariant_of-result g c =
    rw (c.ids.ensures, c.topology.ensures) (
      position-place c.args.nodes.now.graph.ids c.args.index c.lemma_is_graph.ensures.graph.ascending
          c.requires.short,
      c.requires.node,
    )
