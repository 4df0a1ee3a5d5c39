use Rattle.std.proofs.Common.{refl}
use Rattle.applications.specs.Meaning.{meaning_of}
use Rattle.reset_service.specs.Held.HoldsKept.{cut, gone_on}
use Rattle.reset_service.proofs.Holding.{without_past}
use Rattle.reset_service.proofs.session.resume.Goals as goal

pub returns-in-Ok : goal.returns-in-Ok
returns-in-Ok g c = gone_on c.in-Ok.left refl c.in-Ok.ensures.done

pub returns-in-Err-Past : goal.returns-in-Err-Past
returns-in-Err-Past g c =
    let m =
    meaning_of g.P.Application.app g.P.Application.text g.P.Application.from_text g.P.Application.names
    g.P.Invariant.counts in
    without_past m c.args.opening (g.R.Read.remaining c.args.input.now) (g.H.Write.contents c.args.log.now)
    (g.H.Write.contents c.resume_history.new.log) (g.W.Write.contents c.args.out.now)
    (g.W.Write.contents c.refuse_past.new.out) (g.F.Read.remaining c.args.past.now)
    (g.W.Write.contents c.resume_history.new.out) c.in-Err-Past.fault c.refuse_past.result
    (rw c.in-Err-Past.field-0-is at c.in-Err-Past.ensures.err) c.refuse_past.ensures

pub returns-in-Err-Run : goal.returns-in-Err-Run
returns-in-Err-Run g c =
    cut c.in-Err-Run.stop refl (rw c.in-Err-Run.field-0-is at c.in-Err-Run.ensures.err)
