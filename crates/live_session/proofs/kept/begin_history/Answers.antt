use Rattle.std.proofs.Common.{◌∙◌}
use Rattle.applications.specs.Meaning.{meaning_of}
use Rattle.live_session.proofs.Keeping.{begun, cut_beginning}
use Rattle.live_session.proofs.kept.begin_history.Goals as goal

pub returns-in-Ok-clause-done : goal.returns-in-Ok-clause-done
returns-in-Ok-clause-done g c =
    let m =
    meaning_of g.P.Application.app g.P.Application.text g.P.Application.from_text g.P.Application.names
    g.P.Invariant.counts in
    begun m c.args.opening (g.R.Read.remaining c.args.input.now) (g.H.Write.contents c.args.log.now)
    (g.H.Write.contents c.run_session.new.log) (g.W.Write.contents c.args.out.now)
    (g.W.Write.contents c.run_session.new.out) c.run_session.result c.get.result (g.H.Write.contents c.put_beginning.new.log)
    (c.get.ensures.number ∙ c.modulus.ensures) c.in-Ok.ensures.ok c.run_session.ensures.done

pub returns-in-Ok-clause-cut : goal.returns-in-Ok-clause-cut
returns-in-Ok-clause-cut g c =
    let m =
    meaning_of g.P.Application.app g.P.Application.text g.P.Application.from_text g.P.Application.names
    g.P.Invariant.counts in
    cut_beginning m c.args.opening (g.R.Read.remaining c.args.input.now) (g.H.Write.contents c.args.log.now)
    (g.H.Write.contents c.run_session.new.log) (g.W.Write.contents c.args.out.now)
    (g.W.Write.contents c.run_session.new.out) c.run_session.result c.get.result (g.H.Write.contents c.put_beginning.new.log)
    (c.get.ensures.number ∙ c.modulus.ensures) c.in-Ok.ensures.ok c.run_session.ensures.cut
