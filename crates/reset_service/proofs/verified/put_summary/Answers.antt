use Rattle.std.proofs.Common.{codes, length, refl}
use Rattle.std.specs.List.{flat_map}
use Rattle.action_tables.proofs.Prefixes.{AppendsPrefix-first, OnErr-always, OnErr-then}
use Rattle.reset_service.specs.Counts.{counts_line}
use Rattle.reset_service.specs.Verified.{report_line, verified_text}
use Rattle.reset_service.proofs.verified.put_summary.Goals as goal

pub returns-in_err-put_reports-clause-err : goal.returns-in_err-put_reports-clause-err
returns-in_err-put_reports-clause-err g c =
    OnErr-always _ _
    (AppendsPrefix-first _ _ (flat_map report_line c.args.reports.now)
    (counts_line (codes "verified ") c.args.entries (length c.args.reports.now)) c.in_err-put_reports.ensures.err)

pub returns-clause-err : goal.returns-clause-err
returns-clause-err g c =
    OnErr-then c.put_counts.result (g.W.Write.contents c.args.out.now) (g.W.Write.contents c.put_reports.new.out)
    (g.W.Write.contents c.put_counts.new.out)
    (flat_map report_line c.args.reports.now) (counts_line (codes "verified ") c.args.entries (length c.args.reports.now))
    (verified_text c.args.entries c.args.reports.now) refl
    c.in_ok-put_reports.ensures.ok c.put_counts.ensures.err
