use Rattle.std.proofs.Common.{List, length, subst, sym}
use Rattle.history.specs.declared.entry.Report.{Report}
use Rattle.space_time_diagram.specs.Completions.{AreInTurn}
use Rattle.space_time_diagram.proofs.ReportRows.{reports_in_turn}
use Rattle.space_time_diagram.proofs.diagram.put_diagram.Goals as goal

pub put_page-requires-clause-in_turn : goal.put_page-requires-clause-in_turn
put_page-requires-clause-in_turn g c κs within =
    let es = c.args.entries.now in
    let P : List Report → Type 0 = λ rs. AreInTurn 0 (length es) rs in
    subst P (sym c.requires.reports)
    (reports_in_turn g.P.Application.app g.P.Application.from_text c.args.opening.now es)
