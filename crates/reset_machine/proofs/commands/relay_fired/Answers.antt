use Rattle.std.proofs.Common.{refl, sym}
use Rattle.reset_model.specs.declared.event.Event.TheVariants.{Relay}
use Rattle.reset_machine.specs.Place.{wave_seen}
use Rattle.reset_machine.proofs.CommandRows.{of_one, strange_here}
use Rattle.reset_machine.proofs.commands.relay_fired.Goals as goal

pub returns-in_default : goal.returns-in_default
returns-in_default g c = strange_here c.args.nodes.now (Relay c.args.at c.args.child) c.in_default.ensures.none

pub returns : goal.returns
returns g c =
    let place = c.in-Some.place in
    of_one c.args.nodes.now place.config (Relay c.args.at c.args.child) place.id _ _ c.in-Some.ensures.found.0 (c.fired_at.ensures (Relay c.args.at c.args.child)) 2 refl refl
    (sym c.in-Some.ensures.found.1) c.in-Some-neighbour.ensures.found.1
    (c.relay.ensures (wave_seen place) c.args.child (sym c.wave.ensures) (sym c.asked_child.ensures))
