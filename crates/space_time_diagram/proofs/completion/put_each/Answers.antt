use Rattle.std.proofs.Common.{Some, ap, arith, sym, ◌∙◌}
use Rattle.action_tables.proofs.Prefixes.{OnErr-always}
use Rattle.action_tables.proofs.Pieces.{AppendsPrefix-piece}
use Rattle.reset_model.specs.Configuration.{Configuration}
use Rattle.history.proofs.Plays.{replayed_nil}
use Rattle.space_time_diagram.specs.Completions.{told_completion}
use Rattle.space_time_diagram.proofs.Sequences.{nothing_yet}
use Rattle.space_time_diagram.proofs.completion.put_each.Goals as goal

pub loop-report-init : goal.loop-report-init
loop-report-init g c = (
  nothing_yet (g.W.Write.contents c.args.out.now),
  replayed_nil g.P.Application.app g.P.Application.from_text c.args.opening.now
      ∙ ap (λ (d : Configuration _). Some d) (sym c.requires.opening),
  c.requires.in_turn,
)

pub returns-in_err-put_next-clause-err : goal.returns-in_err-put_next-clause-err
returns-in_err-put_next-clause-err g c =
    OnErr-always _ _
    (AppendsPrefix-piece _ _ _
    (told_completion g.P.Application.app g.P.Application.from_text c.args.nodes.now c.args.before c.args.opening.now
    c.args.entries.now)
    c.args.reports.now c.loop-report.report-index _ (omega arith)
    c.loop-report.invariant.0 c.in_err-put_next.ensures.err)
