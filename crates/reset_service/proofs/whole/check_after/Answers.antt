use Rattle.app_invariants.specs.Verdicts.{verdicts_of}
use Rattle.applications.specs.Meaning.{meaning_of}
use Rattle.script_replay.specs.Lines.{lines_of}
use Rattle.script_replay.specs.Output.{answers, script_output}
use Rattle.script_replay.specs.declared.status.Purpose.TheVariants as purpose
use Rattle.reset_service.specs.Whole.{after_check}
use Rattle.reset_service.proofs.Wholes.{cut, followed, same_follows}
use Rattle.reset_service.proofs.whole.check_after.Goals as goal

pub returns-in-Ok-clause-leaves : goal.returns-in-Ok-clause-leaves
returns-in-Ok-clause-leaves g c =
    let m =
    meaning_of g.P.Application.app g.P.Application.text g.P.Application.from_text g.P.Application.names
    g.P.Invariant.counts in
    let left = (answers m c.args.config.now 1 (lines_of c.args.script.now)).config in
    let same =
    same_follows m c.args.repairs c.args.config.now c.run_script.new.config c.args.script.now _ _ c.in-Ok.checked
    c.in-Ok.ensures.leaves c.in-Ok.ensures.config in
    followed (script_output m (purpose.Check c.args.repairs) c.args.config.now c.args.script.now)
    (after_check (verdicts_of m.counts m.app left)) (g.W.Write.contents c.args.out.now)
    (g.W.Write.contents c.run_script.new.out) _ c.in-Ok.checked c.end_check.result c.in-Ok.ensures.leaves
    (rw same at c.end_check.ensures.ok) (rw same at c.end_check.ensures.err) c.end_check.ensures.stop

pub returns-in-Err-clause-leaves : goal.returns-in-Err-clause-leaves
returns-in-Err-clause-leaves g c =
    let m =
    meaning_of g.P.Application.app g.P.Application.text g.P.Application.from_text g.P.Application.names
    g.P.Invariant.counts in
    let left = (answers m c.args.config.now 1 (lines_of c.args.script.now)).config in
    cut (script_output m (purpose.Check c.args.repairs) c.args.config.now c.args.script.now)
    (after_check (verdicts_of m.counts m.app left)) _ _ c.in-Err.stop c.in-Err.ensures.leaves
