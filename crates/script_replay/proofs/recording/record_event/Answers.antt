use Rattle.reset_model.specs.Planned.{outcome_of}
use Rattle.script_replay.proofs.Noting.{event_noted}
use Rattle.script_replay.proofs.recording.record_event.Goals as goal

pub returns-in-Ok : goal.returns-in-Ok
returns-in-Ok g c =
    let b = c.args.book.now in
    event_noted b c.args.event (outcome_of g.P.Application.app b.config c.args.event) c.step.new.self c.in-Ok.field-0
    c.requires c.in-Ok.ensures.outcome
