use Rattle.std.proofs.Common.{◌≢◌, refl, rules}
use Rattle.applications.specs.Meaning.{meaning_of}
use Rattle.reset_service.specs.Begun.{Drives, IsBegunFrom}
use Rattle.reset_service.specs.Begun.IsBegunFrom.{bad_snapshot, begun}
use Rattle.reset_service.specs.Threaded.{told_history, told_output}
use Rattle.reset_service.specs.declared.started.StartFault.TheVariants.{NoMemory}
use Rattle.reset_service.proofs.Threading.{ok_weaker}
use Rattle.reset_service.proofs.driven.drive_started.Goals as goal

pub returns-in-Ok-clause-ok : goal.returns-in-Ok-clause-ok
returns-in-Ok-clause-ok g c =
    let m =
    meaning_of g.P.Application.app g.P.Application.text g.P.Application.from_text g.P.Application.names
    g.P.Invariant.counts in
    let run = c.args.run in
    let follows = Drives run.steps run.seed run.faults _ m in
    ok_weaker c.drive_opened.result (λ told. follows c.in-Ok.opening (told_history told) (told_output told))
    (λ told. IsBegunFrom m c.args.network.topology c.args.network.modulus c.args.snapshot.now follows
    (told_history told) (told_output told))
    (λ told is. begun c.in-Ok.opening c.in-Ok.ensures.short c.in-Ok.ensures.ok is) c.drive_opened.ensures.ok

pub returns-in-Err-clause-ok : goal.returns-in-Err-clause-ok
returns-in-Err-clause-ok g c =
    let memory : c.in-Err.fault ≢ NoMemory = search rules in
    bad_snapshot c.in-Err.fault (c.in-Err.ensures.err memory) refl refl
