use Rattle.std.proofs.Common.{[], ◌∙◌, refl}
use Rattle.applications.specs.Meaning.{meaning_of}
use Rattle.live_session.specs.Progress.{Start}
use Rattle.live_session.proofs.Taken.{begins}
use Rattle.live_session.proofs.session.run_session.Goals as goal

pub returns-in-Ok-clause-done : goal.returns-in-Ok-clause-done
returns-in-Ok-clause-done g c =
    let m =
    meaning_of g.P.Application.app g.P.Application.text g.P.Application.from_text g.P.Application.names
    g.P.Invariant.counts in
    let s : Start _ = record {
      room = c.args.room;
      config = c.args.config;
      log = g.H.Write.contents c.args.log.now;
      out = g.W.Write.contents c.args.out.now;
    } in
    let new = c.new-session.ensures in
    let (text, whole, done) =
    c.in-Ok.ensures.done s (
      [],
      begins m s s.log s.out c.new-session.result new.room new.config new.number new.partial new.entries new.answers
          refl refl,
    ) in
    (text, whole, c.into_config-left.ensures ∙ done.left_is, done.done)

pub returns-in-Err-clause-cut : goal.returns-in-Err-clause-cut
returns-in-Err-clause-cut g c =
    let m =
    meaning_of g.P.Application.app g.P.Application.text g.P.Application.from_text g.P.Application.names
    g.P.Invariant.counts in
    let s : Start _ = record {
      room = c.args.room;
      config = c.args.config;
      log = g.H.Write.contents c.args.log.now;
      out = g.W.Write.contents c.args.out.now;
    } in
    let new = c.new-session.ensures in
    c.in-Err.ensures.cut s (
      [],
      begins m s s.log s.out c.new-session.result new.room new.config new.number new.partial new.entries new.answers
          refl refl,
    )
