use Rattle.std.proofs.Common.{◌≡◌, ◌≢◌, refl}
use Rattle.applications.specs.Meaning.{meaning_of}
use Rattle.script_replay.specs.declared.status.Status.TheVariants.{BadInput}
use Rattle.script_replay.proofs.LeftRecords.{record_alone, record_weaker}
use Rattle.reset_service.specs.Begun.{IsBegunFrom, Records}
use Rattle.reset_service.specs.Begun.IsBegunFrom.{bad_snapshot, begun}
use Rattle.reset_service.specs.Started.{start_fault_text}
use Rattle.reset_service.specs.declared.started.StartFault.TheVariants.{NoMemory}
use Rattle.reset_service.proofs.recorded.record_started.Goals as goal

pub returns-in-Ok : goal.returns-in-Ok
returns-in-Ok g c =
    let m =
    meaning_of g.P.Application.app g.P.Application.text g.P.Application.from_text g.P.Application.names
    g.P.Invariant.counts in
    let follows = Records c.args.script.now _ m in
    record_weaker (follows c.in-Ok.config)
    (IsBegunFrom m c.args.network.topology c.args.network.modulus c.args.snapshot.now follows) _ _ _ _
    c.record_script.result (λ h o is. begun c.in-Ok.config c.in-Ok.ensures.short c.in-Ok.ensures.ok is)
    c.record_script.ensures

pub returns-in-Err : goal.returns-in-Err
returns-in-Err g c =
    let m =
    meaning_of g.P.Application.app g.P.Application.text g.P.Application.from_text g.P.Application.names
    g.P.Invariant.counts in
    let follows = Records c.args.script.now _ m in
    record_alone (IsBegunFrom m c.args.network.topology c.args.network.modulus c.args.snapshot.now follows)
    (λ o. (c.in-Err.fault ≢ NoMemory) × (o ≡ (start_fault_text c.in-Err.fault, BadInput)))
    (λ o is. bad_snapshot c.in-Err.fault (c.in-Err.ensures.err is.0) refl is.1)
    (g.H.Write.contents c.args.history.now) _ _ c.refuse_start.result c.refuse_start.ensures.stop
    c.refuse_start.ensures.leaves
