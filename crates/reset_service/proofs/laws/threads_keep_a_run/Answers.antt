use Rattle.applications.proofs.Choosing.{each_invariant}
use Rattle.reset_service.proofs.KeptRuns.{Known, threads_run}
use Rattle.reset_service.proofs.laws.threads_keep_a_run.Goals as goal

pub returns : goal.returns
returns c =
    threads_run
    (each_invariant (λ L m Inv. Known m Inv) c.kept_histories_are_runs.ensures c.kept_histories_are_runs-2.ensures
    c.kept_histories_are_runs-3.ensures c.kept_histories_are_runs-4.ensures)
