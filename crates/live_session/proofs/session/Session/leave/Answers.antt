use Rattle.std.proofs.Common.{refl}
use Rattle.applications.specs.Meaning.{meaning_of}
use Rattle.live_session.specs.Course.{rested}
use Rattle.live_session.proofs.Going.{cut_writing, goes_out_done}
use Rattle.live_session.proofs.session.Session.leave.Goals as goal

pub returns-in-Ok-clause-done : goal.returns-in-Ok-clause-done
returns-in-Ok-clause-done g c s text ended =
    let m =
    meaning_of g.P.Application.app g.P.Application.text g.P.Application.from_text g.P.Application.names
    g.P.Invariant.counts in
    let ok = c.in-Ok.ensures in
    let now = c.args.self.now in
    goes_out_done m s {F = Unit {0}} (λ only. text) tt now.config now.config now.batch c.commit.new.self
    (g.H.Write.contents c.args.log.now) (g.H.Write.contents c.commit.new.log)
    (g.W.Write.contents c.args.out.now) (g.W.Write.contents c.commit.new.out)
    refl ok.log ok.out ok.entries ok.answers ended

pub returns-in-Err-clause-cut : goal.returns-in-Err-clause-cut
returns-in-Err-clause-cut g c s text ended =
    let m =
    meaning_of g.P.Application.app g.P.Application.text g.P.Application.from_text g.P.Application.names
    g.P.Invariant.counts in
    let now = c.args.self.now in
    cut_writing m s {F = Unit {0}} (λ only. text) tt (λ only. rested now.config) now.batch
    (g.H.Write.contents c.args.log.now) (g.H.Write.contents c.commit.new.log)
    (g.W.Write.contents c.args.out.now) (g.W.Write.contents c.commit.new.out) ended c.in-Err.ensures.err
