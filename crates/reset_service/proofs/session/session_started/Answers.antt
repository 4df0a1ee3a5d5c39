use Rattle.std.proofs.Common.{refl}
use Rattle.applications.specs.Meaning.{meaning_of}
use Rattle.reset_service.specs.Held.{HoldsFrom}
use Rattle.reset_service.specs.Held.HoldsOn.{started}
use Rattle.reset_service.proofs.Holding.{unstarted}
use Rattle.reset_service.proofs.session.session_started.Goals as goal

pub returns-in-Ok : goal.returns-in-Ok
returns-in-Ok g c =
    started c.args.snapshot.now c.in-Ok.opening refl c.in-Ok.ensures.short c.in-Ok.ensures.ok c.session_from.ensures

pub returns-in-Err : goal.returns-in-Err
returns-in-Err g c =
    let m =
    meaning_of g.P.Application.app g.P.Application.text g.P.Application.from_text g.P.Application.names
    g.P.Invariant.counts in
    unstarted m c.args.network.topology c.args.network.modulus (HoldsFrom g.F.Read.remaining c.args.past m)
    (g.R.Read.remaining c.args.input.now) (g.H.Write.contents c.args.log.now) (g.W.Write.contents c.args.out.now)
    (g.W.Write.contents c.refuse_start.new.out) c.refuse_start.result c.args.snapshot.now c.in-Err.fault
    c.in-Err.ensures.err c.refuse_start.ensures.leaves
