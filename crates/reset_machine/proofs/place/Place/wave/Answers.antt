use Rattle.std.proofs.Common.{sym}
use Rattle.wave_layer.specs.declared.regs.Phase.TheVariants.{Normal}
use Rattle.reset_model.proofs.Positions.{value_at-position}
use Rattle.reset_machine.proofs.place.Place.wave.Goals as goal

pub returns : goal.returns
returns g c =
    let place = c.self.inside in
    let now = place.nodes.now in
    rw (← c.self.view_is, c.waves.ensures.value)
    (sym (value_at-position (record { phase = Normal; session = 0 }) now.graph.ids now.waves place.index place.id
    c.waves.ensures.shaped.waves c.self.invariant.0))
