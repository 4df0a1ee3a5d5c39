use Rattle.std.proofs.Common.{Some}
use Rattle.reset_service.specs.Begun.{IsBegunText, RunsThreads}
use Rattle.reset_service.specs.Selected.{IsSelectedText}
use Rattle.reset_service.specs.Threaded.{told_history, told_output}
use Rattle.reset_service.proofs.Selecting.{plain_begun}
use Rattle.reset_service.proofs.Threading.{ok_weaker}
use Rattle.reset_service.proofs.threaded.run_text_from.Goals as goal

pub returns-clause-ok : goal.returns-clause-ok
returns-clause-ok g c =
    let run = c.plain_run.result in
    let topology = c.args.topology.now in
    let snapshot = c.args.snapshot.now in
    ok_weaker c.run_selected.result
    (λ told. IsSelectedText run topology (Some snapshot) (told_history told) (told_output told))
    (λ told. IsBegunText RunsThreads topology snapshot (told_history told) (told_output told))
    (λ told is. plain_begun run c.plain_run.ensures topology snapshot (told_history told) (told_output told) is)
    c.run_selected.ensures.ok
