use Rattle.std.proofs.Common.{◌+◌, refl, None}
use Rattle.applications.specs.Meaning.{meaning_of}
use Rattle.live_session.proofs.Taken.{event_taken}
use Rattle.live_session.proofs.session.Session.take_unkept.Goals as goal

pub returns-clause-taken : goal.returns-clause-taken
returns-clause-taken g c =
    let m =
    meaning_of g.P.Application.app g.P.Application.text g.P.Application.from_text g.P.Application.names
    g.P.Invariant.counts in
    let old = c.args.self.now in
    event_taken m c.args.event None None old
    (record {
      config = c.answer_unkept.new.config;
      room = old.room;
      number = old.number + 1;
      partial = old.partial;
      batch = c.answer_unkept.new.batch;
    })
    c.requires.fits refl c.requires.room c.requires.room c.in_ok-answer_unkept.ensures
