use Rattle.reset_model.proofs.RunShadows.{step_graph}
use Rattle.history.proofs.Plays.{played_step}
use Rattle.history.proofs.player.Player.enter_plan.Goals as goal

pub returns-in-Ok-clause-played : goal.returns-in-Ok-clause-played
returns-in-Ok-clause-played g c =
    let app = g.P.Application.app in
    let now = c.args.self.now in
    λ start es before at.
    rw c.note.ensures.same
    (played_step app g.P.Application.from_text start now.config c.carry_out.new.self es now.openings
    c.note.new.self.openings now.reports.items c.note.new.self.reports.items
    c.args.plan.event c.in-Ok.reply c.args.position before at c.in-Ok.ensures.outcome
    (step_graph app now.config c.carry_out.new.self c.args.plan.event c.in-Ok.ensures.ok.0)
    c.lemma_is_graph.ensures.graph (rw c.event-event.ensures at c.note.ensures.reports) (rw c.event-event.ensures at c.note.ensures.openings)
    c.note.ensures.within)
