use Rattle.std.proofs.Common.{◌≡◌, ◌≢◌}
use Rattle.std.specs.Prelude.{option_map}
use Rattle.applications.specs.Meaning.{meaning_of}
use Rattle.script_replay.specs.declared.status.Status.TheVariants.{BadInput}
use Rattle.script_replay.proofs.Runs.{leaves_weaker}
use Rattle.reset_service.specs.Started.{start_fault_text}
use Rattle.reset_service.specs.Opened.{IsOpenedFrom}
use Rattle.reset_service.specs.Opened.IsOpenedFrom.{bad_snapshot, opened}
use Rattle.reset_service.specs.Whole.{WholeCheck}
use Rattle.reset_service.specs.declared.started.StartFault.TheVariants.{NoMemory}
use Rattle.reset_service.proofs.whole.check_opened.Goals as goal

pub returns-in-Ok-clause-leaves : goal.returns-in-Ok-clause-leaves
returns-in-Ok-clause-leaves g c =
    let m =
    meaning_of g.P.Application.app g.P.Application.text g.P.Application.from_text g.P.Application.names
    g.P.Invariant.counts in
    let follows = WholeCheck c.args.repairs c.args.script.now _ m in
    leaves_weaker (follows c.in-Ok.config)
    (IsOpenedFrom m c.args.network.topology c.args.network.modulus (option_map (λ s. s.now) c.args.snapshot) follows) _ _
    c.check_after.result (λ o is. opened c.in-Ok.config c.in-Ok.ensures.ok is) c.check_after.ensures.leaves

pub returns-in-Err-clause-leaves : goal.returns-in-Err-clause-leaves
returns-in-Err-clause-leaves g c =
    let m =
    meaning_of g.P.Application.app g.P.Application.text g.P.Application.from_text g.P.Application.names
    g.P.Invariant.counts in
    let follows = WholeCheck c.args.repairs c.args.script.now _ m in
    leaves_weaker (λ o. (c.in-Err.fault ≢ NoMemory) × (o ≡ (start_fault_text c.in-Err.fault, BadInput)))
    (IsOpenedFrom m c.args.network.topology c.args.network.modulus (option_map (λ s. s.now) c.args.snapshot) follows) _ _
    c.refuse_start.result
    (λ o is. bad_snapshot c.in-Err.fault (c.in-Err.ensures.err is.0) is.1) c.refuse_start.ensures.leaves
