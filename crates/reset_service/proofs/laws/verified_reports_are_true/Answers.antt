use Rattle.applications.proofs.Choosing.{each_app}
use Rattle.reset_service.proofs.VerifiedReports.{AreTrue, verified_reports}
use Rattle.reset_service.proofs.laws.verified_reports_are_true.Goals as goal

pub returns : goal.returns
returns c =
    verified_reports
    (each_app (λ L m. AreTrue m) c.reports_are_true.ensures c.reports_are_true-2.ensures
    c.reports_are_true-3.ensures c.reports_are_true-4.ensures)
