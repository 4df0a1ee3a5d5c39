use Rattle.std.proofs.Common.{arith}
use Rattle.action_tables.proofs.Prefixes.{OnErr-always}
use Rattle.reset_service.specs.Reasons.{named_line}
use Rattle.reset_service.proofs.Reasoning.{all_lines, no_line}
use Rattle.reset_service.proofs.reasons.put_named.Goals as goal

pub returns-in_err-put_if_named-clause-err : goal.returns-in_err-put_if_named-clause-err
returns-in_err-put_if_named-clause-err g c =
    OnErr-always _ _
    (no_line _ _ _ (named_line c.args.name.now) c.args.rows.now c.loop-row.row-index _ (omega arith)
    c.loop-row.invariant c.in_err-put_if_named.ensures.err)

pub returns-clause-ok : goal.returns-clause-ok
returns-clause-ok g c =
    all_lines _ _ (named_line c.args.name.now) c.args.rows.now c.loop-row.row-index (omega arith)
    c.loop-row.invariant
