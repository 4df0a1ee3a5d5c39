use Rattle.std.proofs.Common.{◌≡◌, ◌≢◌}
use Rattle.std.specs.Prelude.{option_map}
use Rattle.applications.specs.Meaning.{meaning_of}
use Rattle.script_replay.specs.declared.status.Status.TheVariants.{BadInput}
use Rattle.reset_service.specs.Opened.{IsOpenedFrom}
use Rattle.reset_service.specs.Opened.IsOpenedFrom.{bad_snapshot, opened}
use Rattle.reset_service.specs.Parted.{DrawsPart}
use Rattle.reset_service.specs.Started.{start_fault_text}
use Rattle.reset_service.specs.declared.started.StartFault.TheVariants.{NoMemory}
use Rattle.reset_service.proofs.Verifying.{read_anyway, read_weaker}
use Rattle.reset_service.proofs.parted.draw_opened.Goals as goal

pub returns-in-Ok : goal.returns-in-Ok
returns-in-Ok g c =
    let m =
    meaning_of g.P.Application.app g.P.Application.text g.P.Application.from_text g.P.Application.names
    g.P.Invariant.counts in
    let rows = option_map (λ t. t.now) c.args.part.rows in
    let nodes = option_map (λ t. t.now) c.args.part.nodes in
    let here =
    IsOpenedFrom m c.args.network.topology c.args.network.modulus (option_map (λ s. s.now) c.args.snapshot) in
    record {
      leaves = read_weaker (g.R.Read.remaining c.args.history.now) (λ text. here (DrawsPart rows nodes text _ m))
          (λ text. DrawsPart rows nodes text _ m c.in-Ok.opening) _ _ c.draw_part.result
          (λ text o is. opened c.in-Ok.opening c.in-Ok.ensures.ok is) c.draw_part.ensures.leaves;
    }

pub returns-in-Err : goal.returns-in-Err
returns-in-Err g c =
    let m =
    meaning_of g.P.Application.app g.P.Application.text g.P.Application.from_text g.P.Application.names
    g.P.Invariant.counts in
    let rows = option_map (λ t. t.now) c.args.part.rows in
    let nodes = option_map (λ t. t.now) c.args.part.nodes in
    let here =
    IsOpenedFrom m c.args.network.topology c.args.network.modulus (option_map (λ s. s.now) c.args.snapshot) in
    record {
      leaves = read_anyway (g.R.Read.remaining c.args.history.now) (λ text. here (DrawsPart rows nodes text _ m))
          (λ o. (c.in-Err.fault ≢ NoMemory) × (o ≡ (start_fault_text c.in-Err.fault, BadInput))) _ _
          c.refuse_start.result
          (λ text o is. bad_snapshot c.in-Err.fault (c.in-Err.ensures.err is.0) is.1) c.refuse_start.ensures.leaves;
    }
