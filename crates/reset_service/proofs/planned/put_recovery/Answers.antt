use Rattle.std.specs.Prelude.{codes}
use Rattle.std.proofs.Common.{refl}
use Rattle.action_tables.proofs.Prefixes.{AppendsPrefix-first, OnErr-always, OnErr-then}
use Rattle.reset_service.specs.Planned.{counted_text, recovery_text}
use Rattle.reset_service.proofs.planned.put_recovery.Goals as goal

pub returns-in_err-put_counted-clause-err : goal.returns-in_err-put_counted-clause-err
returns-in_err-put_counted-clause-err g c =
    OnErr-always _ _
    (AppendsPrefix-first _ _ (counted_text c.args.repairs.now (codes " repairs"))
    (counted_text c.args.reset.now (codes " steps of a reset")) c.in_err-put_counted.ensures.err)

pub returns-clause-err : goal.returns-clause-err
returns-clause-err g c =
    OnErr-then c.put_counted-2.result (g.W.Write.contents c.args.out.now) (g.W.Write.contents c.put_counted.new.out)
    (g.W.Write.contents c.put_counted-2.new.out)
    (counted_text c.args.repairs.now (codes " repairs")) (counted_text c.args.reset.now (codes " steps of a reset"))
    (recovery_text c.args.repairs.now c.args.reset.now) refl
    c.in_ok-put_counted.ensures.ok c.put_counted-2.ensures.err
