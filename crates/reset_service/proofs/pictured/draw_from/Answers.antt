use Rattle.std.proofs.Common.{None}
use Rattle.applications.specs.Meaning.{meaning_of}
use Rattle.reset_service.specs.Parted.{IsSelectionDrawn}
use Rattle.reset_service.specs.Pictured.{IsPicture}
use Rattle.reset_service.proofs.Picturing.{of_selection}
use Rattle.reset_service.proofs.Verifying.{read_weaker}
use Rattle.reset_service.proofs.pictured.draw_from.Goals as goal

pub returns : goal.returns
returns g c =
    let m =
    meaning_of g.P.Application.app g.P.Application.text g.P.Application.from_text g.P.Application.names
    g.P.Invariant.counts in
    let opening = c.args.opening.now in
    record {
      leaves = read_weaker (g.R.Read.remaining c.args.history.now) (IsPicture m opening)
          (IsSelectionDrawn m None None opening) _ _ c.draw_all.result (λ text o is. of_selection m opening text o is)
          c.draw_all.ensures.leaves;
    }
