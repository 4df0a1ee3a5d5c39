use Rattle.std.proofs.Common.{arith}
use Rattle.action_tables.proofs.Prefixes.{OnErr-always}
use Rattle.reset_service.specs.Reasons.{guard_line}
use Rattle.reset_service.proofs.Reasoning.{all_lines, no_line}
use Rattle.reset_service.proofs.reasons.put_guards_among.Goals as goal

pub returns-in_err-put_guard-clause-err : goal.returns-in_err-put_guard-clause-err
returns-in_err-put_guard-clause-err g c =
    OnErr-always _ _
    (no_line _ _ _ (guard_line c.args.numbers.now) c.args.rows.now c.loop-row.row-index _ (omega arith)
    c.loop-row.invariant c.in_err-put_guard.ensures.err)

pub returns-clause-ok : goal.returns-clause-ok
returns-clause-ok g c =
    all_lines _ _ (guard_line c.args.numbers.now) c.args.rows.now c.loop-row.row-index (omega arith)
    c.loop-row.invariant
