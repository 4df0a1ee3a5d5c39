use Rattle.std.proofs.Common.{refl, sym}
use Rattle.reset_model.specs.declared.event.Event.TheVariants.{Join}
use Rattle.reset_machine.specs.Place.{wave_seen}
use Rattle.reset_machine.proofs.CommandRows.{of_two, strange_here}
use Rattle.reset_machine.proofs.commands.join_fired.Goals as goal

pub returns-in_default : goal.returns-in_default
returns-in_default g c = strange_here c.args.nodes.now (Join c.args.at) c.in_default.ensures.none

pub returns : goal.returns
returns g c =
    let place = c.in-Some.place in
    of_two c.args.nodes.now place.config (Join c.args.at) place.id _ _ c.in-Some.ensures.found.0 (c.fired_at.ensures (Join c.args.at)) 4 5 refl refl
    (sym c.in-Some.ensures.found.1) refl
    (c.join.ensures (wave_seen place) (sym c.wave.ensures) (sym c.modulus.ensures) (sym c.father_seen.ensures))
