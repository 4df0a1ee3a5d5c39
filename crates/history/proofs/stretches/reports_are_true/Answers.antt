use Rattle.history.proofs.TrueReports.{true_reports}
use Rattle.history.proofs.stretches.reports_are_true.Goals as goal

pub returns : goal.returns
returns g c =
    λ opening es s graph shaped. true_reports g.P.Application.app g.P.Application.from_text opening
    (record { graph = graph; shaped = shaped }) es s
