use Rattle.std.proofs.Common.{arith}
use Rattle.action_tables.proofs.Prefixes.{OnErr-always}
use Rattle.action_tables.proofs.Pieces.{AppendsPrefix-piece}
use Rattle.reset_service.specs.Verified.{report_line}
use Rattle.reset_service.proofs.verified.put_reports.Goals as goal

pub returns-in_err-put_report-clause-err : goal.returns-in_err-put_report-clause-err
returns-in_err-put_report-clause-err g c =
    OnErr-always _ _
    (AppendsPrefix-piece _ _ _ report_line c.args.reports.now c.loop-report.report-index _ (omega arith)
    c.loop-report.invariant c.in_err-put_report.ensures.err)
