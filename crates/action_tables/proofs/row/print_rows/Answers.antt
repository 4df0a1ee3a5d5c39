use Rattle.std.proofs.Common.{arith}
use Rattle.action_tables.proofs.Prefixes.{OnErr-always}
use Rattle.action_tables.proofs.Pieces.{Appends-piece}
use Rattle.action_tables.proofs.TableTexts.{line_of, table_text-no_title, table_text-no_row, table_text-whole}
use Rattle.action_tables.proofs.row.print_rows.Goals as goal

pub returns-in_err-print_title-clause-err : goal.returns-in_err-print_title-clause-err
returns-in_err-print_title-clause-err g c =
    OnErr-always _ _ (table_text-no_title _ _ _ c.args.rows.now c.in_err-print_title.ensures.err)

pub returns-in_err-print_row-clause-err : goal.returns-in_err-print_row-clause-err
returns-in_err-print_row-clause-err g c =
    OnErr-always _ _
    (table_text-no_row _ _ _ _ _ c.args.rows.now c.loop-row.row-index _ (omega arith) c.in_ok-print_title.ensures.ok
    c.loop-row.invariant c.in_err-print_row.ensures.err)

pub loop-row-preserved : goal.loop-row-preserved
loop-row-preserved g c =
    Appends-piece _ _ _ line_of c.args.rows.now c.loop-row.row-index _ (omega arith) c.loop-row.invariant
    c.in_ok-print_row.ensures.ok

pub returns-clause-ok : goal.returns-clause-ok
returns-clause-ok g c =
    table_text-whole _ _ _ _ c.args.rows.now c.loop-row.row-index (omega arith) c.in_ok-print_title.ensures.ok
    c.loop-row.invariant
