use Rattle.std.proofs.Common.{arith}
use Rattle.action_tables.proofs.Prefixes.{OnErr-always}
use Rattle.action_tables.proofs.Pieces.{AppendsPrefix-piece}
use Rattle.history_page.specs.Opening.{boot_line}
use Rattle.history_page.proofs.boot.put_boot_lines.Goals as goal

pub returns-in_err-put_boot_line-clause-err : goal.returns-in_err-put_boot_line-clause-err
returns-in_err-put_boot_line-clause-err g c =
    OnErr-always _ _
    (AppendsPrefix-piece _ _ _ (boot_line g.P.Application.app g.P.Application.text c.args.opening.now) c.args.ids.now
    c.loop-id.id-index _ (omega arith) c.loop-id.invariant c.in_err-put_boot_line.ensures.err)
