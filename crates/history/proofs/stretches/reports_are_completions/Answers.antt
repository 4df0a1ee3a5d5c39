use Rattle.history.proofs.ReportOrder.{in_turn}
use Rattle.history.proofs.ReportedCompletions.{has_report, reports_are}
use Rattle.history.proofs.stretches.reports_are_completions.Goals as goal

pub returns-clause-exactly : goal.returns-clause-exactly
returns-clause-exactly g c = reports_are g.P.Application.app g.P.Application.from_text

pub returns-clause-each : goal.returns-clause-each
returns-clause-each g c = has_report g.P.Application.app g.P.Application.from_text

pub returns-clause-in_turn : goal.returns-clause-in_turn
returns-clause-in_turn g c = in_turn g.P.Application.app g.P.Application.from_text
