use Rattle.std.proofs.Common.{refl, sym, ap, ◌∙◌}
use Rattle.wave_layer.specs.WaveTable.{children_done}
use Rattle.reset_model.specs.declared.event.Event.TheVariants.{Finish}
use Rattle.reset_machine.specs.Place.{wave_seen}
use Rattle.reset_machine.proofs.CommandRows.{of_two, strange_here}
use Rattle.reset_machine.proofs.commands.finish_fired.Goals as goal

pub returns-in_default : goal.returns-in_default
returns-in_default g c = strange_here c.args.nodes.now (Finish c.args.at) c.in_default.ensures.none

pub returns : goal.returns
returns g c =
    let place = c.in-Some.place in
    let done =
    ap (λ r. children_done r.session (wave_seen place).children) c.wave.ensures ∙ sym c.are_children_done-done.ensures in
    of_two c.args.nodes.now place.config (Finish c.args.at) place.id _ _ c.in-Some.ensures.found.0 (c.fired_at.ensures (Finish c.args.at)) 6 7 refl refl
    (sym c.in-Some.ensures.found.1) refl
    (c.finish.ensures (wave_seen place) (sym c.wave.ensures) (sym c.is_root.ensures) done)
