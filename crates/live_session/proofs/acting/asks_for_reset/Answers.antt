use Rattle.applications.specs.Meaning.{meaning_of}
use Rattle.live_session.proofs.Watched.{asked_entries, quiet_entries}
use Rattle.live_session.proofs.acting.asks_for_reset.Goals as goal

pub returns-in-None : goal.returns-in-None
returns-in-None g c =
    let m =
    meaning_of g.P.Application.app g.P.Application.text g.P.Application.from_text g.P.Application.names
    g.P.Invariant.counts in
    quiet_entries m c.args.config.now c.args.at c.in-None.ensures.none

pub returns-in-Some : goal.returns-in-Some
returns-in-Some g c =
    let m =
    meaning_of g.P.Application.app g.P.Application.text g.P.Application.from_text g.P.Application.names
    g.P.Invariant.counts in
    asked_entries m c.args.config.now c.args.at c.is_applied.result c.in-Some.field-0 c.in-Some.ensures.found
    c.is_applied.ensures
