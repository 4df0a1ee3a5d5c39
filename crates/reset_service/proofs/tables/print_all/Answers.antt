use Rattle.std.proofs.Common.{arith}
use Rattle.action_tables.proofs.Prefixes.{OnErr-always}
use Rattle.action_tables.proofs.Pieces.{AppendsPrefix-piece}
use Rattle.reset_service.specs.Tables.{titled_rows_text}
use Rattle.reset_service.proofs.tables.print_all.Goals as goal

pub returns-in_err-print_rows-clause-err : goal.returns-in_err-print_rows-clause-err
returns-in_err-print_rows-clause-err g c =
    OnErr-always _ _
    (AppendsPrefix-piece _ _ _ titled_rows_text c.args.tables.now c.loop-title.title-index _ (omega arith)
    c.loop-title.invariant c.in_err-print_rows.ensures.err)
