use Rattle.applications.specs.Meaning.{meaning_of}
use Rattle.reset_service.specs.Drove.{IsDrove, IsDroveFrom}
use Rattle.reset_service.specs.Threaded.{told_history, told_output}
use Rattle.reset_service.proofs.Threading.{ok_weaker}
use Rattle.reset_service.proofs.driven.drive_booted.Goals as goal

pub returns-in-Ok-clause-ok : goal.returns-in-Ok-clause-ok
returns-in-Ok-clause-ok g c =
    let m =
    meaning_of g.P.Application.app g.P.Application.text g.P.Application.from_text g.P.Application.names
    g.P.Invariant.counts in
    let run = c.args.run in
    ok_weaker c.drive_opened.result
    (λ told. IsDrove m c.in-Ok.opening run.steps run.seed run.faults (told_history told) (told_output told))
    (λ told. IsDroveFrom m run.steps run.seed run.faults c.args.network.topology c.args.network.modulus
    (told_history told) (told_output told))
    (λ told is. (c.in-Ok.opening, c.in-Ok.ensures.ok, is)) c.drive_opened.ensures.ok
