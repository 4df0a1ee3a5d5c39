use Rattle.std.proofs.Common.{sym}
use Rattle.wave_layer.specs.declared.regs.Phase.TheVariants.{Normal}
use Rattle.reset_model.proofs.Positions.{value_at-place}
use Rattle.reset_machine.proofs.place.Place.wave_at.Goals as goal

pub returns : goal.returns
returns g c =
    let now = c.self.inside.nodes.now in
    let short = rw (← c.self.view_is) at c.requires in
    rw (← c.self.view_is, c.waves.ensures.value)
    (sym (value_at-place (record { phase = Normal; session = 0 }) now.graph.ids now.waves c.args.index
    c.lemma_is_graph.ensures.graph.ascending c.waves.ensures.shaped.waves short))
