use Rattle.std.proofs.Common.{refl, rules}
use Rattle.node_choices.specs.Choice.{is_allowed}
use Rattle.node_choices.proofs.Choices.{relays, own_next, tried_own}
use Rattle.node_choices.proofs.Resting.{no_wave}
use Rattle.node_choices.proofs.Trying.{first_some, two_lists}
use Rattle.node_choices.proofs.choice.first_of_wave.Goals as goal

pub returns-then-wave_rests : goal.returns-then-wave_rests
returns-then-wave_rests g c = no_wave g.P.Application.app c.args.sight.now (search rules) _

pub returns-in-Some : goal.returns-in-Some
returns-in-Some g c =
    let app = g.P.Application.app in
    let v = c.args.sight.now in
    first_some _ _ _ _ (tried_own app v own_next _ _ _ c.in_ok-event.ensures c.id-at.ensures c.in-Some.is)
    (two_lists (is_allowed app v) (own_next v.id) (relays v.id v.near) _ refl)
