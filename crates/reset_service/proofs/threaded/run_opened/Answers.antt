use Rattle.std.proofs.Common.{◌≢◌, refl, rules}
use Rattle.std.specs.Prelude.{option_map}
use Rattle.applications.specs.Meaning.{meaning_of}
use Rattle.reset_service.specs.Opened.{IsOpenedFrom}
use Rattle.reset_service.specs.Opened.IsOpenedFrom.{bad_snapshot, opened}
use Rattle.reset_service.specs.Selected.{IsSelected, RunsSelected}
use Rattle.reset_service.specs.Threaded.{told_history, told_output}
use Rattle.reset_service.specs.declared.started.StartFault.TheVariants.{NoMemory}
use Rattle.reset_service.proofs.Threading.{ok_weaker}
use Rattle.reset_service.proofs.threaded.run_opened.Goals as goal

pub returns-in-Ok-clause-ok : goal.returns-in-Ok-clause-ok
returns-in-Ok-clause-ok g c =
    let m =
    meaning_of g.P.Application.app g.P.Application.text g.P.Application.from_text g.P.Application.names
    g.P.Invariant.counts in
    let snapshot = option_map (λ s. s.now) c.args.snapshot in
    ok_weaker c.run_from.result (λ told. IsSelected m c.args.run c.in-Ok.opening (told_history told) (told_output told))
    (λ told. IsOpenedFrom m c.args.network.topology c.args.network.modulus snapshot
    (RunsSelected c.args.run (told_history told) _ m) (told_output told))
    (λ told is. opened c.in-Ok.opening c.in-Ok.ensures.ok is) c.run_from.ensures.ok

pub returns-in-Err-clause-ok : goal.returns-in-Err-clause-ok
returns-in-Err-clause-ok g c =
    let memory : c.in-Err.fault ≢ NoMemory = search rules in
    bad_snapshot c.in-Err.fault (c.in-Err.ensures.err memory) refl
