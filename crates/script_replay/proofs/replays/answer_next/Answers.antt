use Rattle.std.proofs.Common.{refl, subst}
use Rattle.action_tables.proofs.Prefixes.{OnErr-always}
use Rattle.reset_model.specs.EventText.{event_line}
use Rattle.script_replay.specs.Parts.{HasFitting}
use Rattle.script_replay.proofs.CommandOf.{event_asked}
use Rattle.script_replay.proofs.replays.answer_next.Goals as goal

pub returns-in_err-answer_step-in-Event-clause-err : goal.returns-in_err-answer_step-in-Event-clause-err
returns-in_err-answer_step-in-Event-clause-err g c =
    let e = c.in-Event.event in
    let asked =
    event_asked g.P.Application.names (event_line e) e (subst HasFitting c.in-Event.is c.requires) refl in
    rw (c.in-Event.is, asked) (OnErr-always c.from_residual.result _ c.in_err-answer_step-in-Event.ensures.err)

pub returns-in_ok-answer_step-in-Event-clause-ok : goal.returns-in_ok-answer_step-in-Event-clause-ok
returns-in_ok-answer_step-in-Event-clause-ok g c =
    let e = c.in-Event.event in
    let asked =
    event_asked g.P.Application.names (event_line e) e (subst HasFitting c.in-Event.is c.requires) refl in
    rw (c.in-Event.is, asked)
    (refl, c.in_ok-answer_step-in-Event.ensures.ok.0, c.in_ok-answer_step-in-Event.ensures.ok.1)
