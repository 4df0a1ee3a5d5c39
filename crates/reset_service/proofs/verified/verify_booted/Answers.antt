use Rattle.applications.specs.Meaning.{meaning_of}
use Rattle.script_replay.specs.declared.status.RunStop.TheVariants.{NoMemory}
use Rattle.reset_service.specs.Verified.{IsVerified, IsVerifiedFrom}
use Rattle.reset_service.proofs.Verifying.{read_unread, read_weaker}
use Rattle.reset_service.proofs.verified.verify_booted.Goals as goal

pub returns-in-Ok : goal.returns-in-Ok
returns-in-Ok g c =
    let m =
    meaning_of g.P.Application.app g.P.Application.text g.P.Application.from_text g.P.Application.names
    g.P.Invariant.counts in
    record {
      leaves = read_weaker (g.R.Read.remaining c.args.history.now)
          (IsVerifiedFrom m c.args.network.topology c.args.network.modulus) (IsVerified m c.in-Ok.opening) _ _ c.verify_opened.result
          (λ text o is. (c.in-Ok.opening, c.in-Ok.ensures.ok, is)) c.verify_opened.ensures.leaves;
    }

pub returns : goal.returns
returns g c =
    let m =
    meaning_of g.P.Application.app g.P.Application.text g.P.Application.from_text g.P.Application.names
    g.P.Invariant.counts in
    record {
      leaves = read_unread (g.R.Read.remaining c.args.history.now)
          (IsVerifiedFrom m c.args.network.topology c.args.network.modulus)
          (g.W.Write.contents c.args.out.now) NoMemory tt;
    }
