use Rattle.reset_model.proofs.RunShadows.{step_graph}
use Rattle.history.proofs.Plays.{played_step}
use Rattle.history.proofs.player.Player.enter_step.Goals as goal

pub returns-in-Ok-step-clause-played : goal.returns-in-Ok-step-clause-played
returns-in-Ok-step-clause-played g c =
    let app = g.P.Application.app in
    let room = c.make_room.new.self in
    λ start es before at.
    rw c.note.ensures.same
    (played_step app g.P.Application.from_text start room.config c.step.new.self es room.openings
    c.note.new.self.openings room.reports.items c.note.new.self.reports.items
    c.args.event c.in-Ok-step.reply c.args.position (c.make_room.ensures.played start es before) at
    c.in-Ok-step.ensures.outcome
    (step_graph app room.config c.step.new.self c.args.event c.in-Ok-step.ensures.ok)
    c.lemma_is_graph.ensures.graph c.note.ensures.reports c.note.ensures.openings c.note.ensures.within)
