use Rattle.std.proofs.Common.{◌∙◌, sym}
use Rattle.std.proofs.lemmas.Result.{on_ok_weaker}
use Rattle.applications.specs.Meaning.{meaning_of}
use Rattle.script_replay.proofs.Noting.{alarm_left, no_alarm_left}
use Rattle.script_replay.proofs.left.pass_watch.Goals as goal

pub returns-in-None : goal.returns-in-None
returns-in-None g c =
    let m =
    meaning_of g.P.Application.app g.P.Application.text g.P.Application.from_text g.P.Application.names
    g.P.Invariant.counts in
    sym (no_alarm_left m c.args.config.now c.args.at c.in-None.ensures.none)

pub returns-in-Some : goal.returns-in-Some
returns-in-Some g c =
    let m =
    meaning_of g.P.Application.app g.P.Application.text g.P.Application.from_text g.P.Application.names
    g.P.Invariant.counts in
    let found = c.in-Some.ensures.found in
    on_ok_weaker c.pass_event.result
    (λ left. left ∙ sym (alarm_left m c.args.config.now c.args.at c.in-Some.field-0 found.0 found.1))
    c.pass_event.ensures
