use Rattle.history.proofs.Plays.{played_fault}
use Rattle.history.proofs.player.Player.enter_fault.Goals as goal

pub returns-in-Ok-clause-played : goal.returns-in-Ok-clause-played
returns-in-Ok-clause-played g c =
    let now = c.args.self.now in
    λ start es before at.
    played_fault g.P.Application.app g.P.Application.from_text start now.config c.inject.new.config es now.openings
    c.disturb.new.self now.reports.items
    c.args.fault.now c.args.position before at c.in-Ok.ensures.outcome c.disturb.ensures.none c.disturb.ensures.within
