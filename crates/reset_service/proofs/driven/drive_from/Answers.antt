use Rattle.std.proofs.Common.{◌≡◌, rules}
use Rattle.std.specs.Prelude.{IsErrAnd}
use Rattle.script_replay.specs.declared.status.RunStop.TheVariants.{WriteFailed}
use Rattle.reset_service.specs.Begun.{Drives, IsBegunText}
use Rattle.reset_service.proofs.Threading.{cut_history}
use Rattle.reset_service.proofs.driven.drive_from.Goals as goal

pub returns-in_err-put_history : goal.returns-in_err-put_history
returns-in_err-put_history g c =
    let run = c.args.run in
    let residual = c.from_residual-in_err-put_history in
    let stop : IsErrAnd residual.result (λ s. s ≡ WriteFailed) = search (rules, residual.ensures) in
    cut_history (IsBegunText (Drives run.steps run.seed run.faults) c.args.topology.now c.args.snapshot.now)
    c.in_ok-told.told _ _ _ residual.result stop c.in_ok-told.ensures.ok c.in_err-put_history.ensures.err
