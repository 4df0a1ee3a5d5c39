use Rattle.std.proofs.Common.{◌+◌, refl, Some}
use Rattle.applications.specs.Meaning.{meaning_of}
use Rattle.live_session.proofs.Taken.{event_taken}
use Rattle.live_session.proofs.session.Session.take_kept.Goals as goal

pub returns-clause-taken : goal.returns-clause-taken
returns-clause-taken g c =
    let m =
    meaning_of g.P.Application.app g.P.Application.text g.P.Application.from_text g.P.Application.names
    g.P.Invariant.counts in
    let old = c.args.self.now in
    event_taken m c.args.event (Some c.args.room) (Some c.in_ok-left.left) old
    (record {
      config = c.answer_kept.new.config;
      room = Some c.in_ok-left.left;
      number = old.number + 1;
      partial = old.partial;
      batch = c.answer_kept.new.batch;
    })
    c.requires.fits refl c.requires.room refl c.in_ok-left.ensures
