use Rattle.std.proofs.Common.{arith}
use Rattle.action_tables.proofs.Prefixes.{OnErr-always}
use Rattle.action_tables.proofs.Pieces.{AppendsPrefix-piece}
use Rattle.history_page.specs.Lines.{line_text}
use Rattle.history_page.proofs.boot.put_lines.Goals as goal

pub returns-in_err-put_line-clause-err : goal.returns-in_err-put_line-clause-err
returns-in_err-put_line-clause-err g c =
    OnErr-always _ _
    (AppendsPrefix-piece _ _ _ (λ line. line_text line.now) c.args.lines.now c.loop-line.line-index _ (omega arith)
    c.loop-line.invariant c.in_err-put_line.ensures.err)
