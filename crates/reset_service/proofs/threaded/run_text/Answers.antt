use Rattle.std.proofs.Common.{None}
use Rattle.reset_service.specs.Selected.{IsSelectedText}
use Rattle.reset_service.specs.Threaded.{IsThreaded, told_history, told_output}
use Rattle.reset_service.proofs.Selecting.{plain_threaded}
use Rattle.reset_service.proofs.Threading.{ok_weaker}
use Rattle.reset_service.proofs.threaded.run_text.Goals as goal

pub returns-clause-ok : goal.returns-clause-ok
returns-clause-ok g c =
    let run = c.plain_run.result in
    let topology = c.args.topology.now in
    ok_weaker c.run_selected.result
    (λ told. IsSelectedText run topology None (told_history told) (told_output told))
    (λ told. IsThreaded topology (told_history told) (told_output told))
    (λ told is. plain_threaded run c.plain_run.ensures topology (told_history told) (told_output told) is)
    c.run_selected.ensures.ok
