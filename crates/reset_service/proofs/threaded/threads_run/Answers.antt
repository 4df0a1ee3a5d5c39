use Rattle.std.proofs.Common.{◌≡◌, rules}
use Rattle.std.specs.Prelude.{IsErrAnd, option_map}
use Rattle.script_replay.specs.declared.status.RunStop.TheVariants.{WriteFailed}
use Rattle.reset_service.specs.Selected.{IsSelectedText}
use Rattle.reset_service.proofs.Threading.{cut_history}
use Rattle.reset_service.proofs.threaded.threads_run.Goals as goal

pub returns-in_err-put_history : goal.returns-in_err-put_history
returns-in_err-put_history g c =
    let residual = c.from_residual-in_err-put_history in
    let stop : IsErrAnd residual.result (λ s. s ≡ WriteFailed) = search (rules, residual.ensures) in
    cut_history (IsSelectedText c.args.run c.args.topology.now (option_map (λ s. s.now) c.args.snapshot))
    c.in_ok-told.told _ _ _ residual.result stop c.in_ok-told.ensures.ok c.in_err-put_history.ensures.err
