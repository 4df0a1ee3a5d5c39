use Rattle.applications.specs.Meaning.{meaning_of}
use Rattle.reset_service.proofs.Holding.{new}
use Rattle.reset_service.proofs.session.begin.Goals as goal

pub returns : goal.returns
returns g c =
    let m =
    meaning_of g.P.Application.app g.P.Application.text g.P.Application.from_text g.P.Application.names
    g.P.Invariant.counts in
    new m c.args.opening (g.R.Read.remaining c.args.input.now) (g.H.Write.contents c.args.log.now)
    (g.H.Write.contents c.begin_history.new.log) (g.W.Write.contents c.args.out.now)
    (g.W.Write.contents c.begin_history.new.out) c.begin_history.result c.end_session.result c.end_session.ensures
    c.begin_history.ensures.done c.begin_history.ensures.cut
