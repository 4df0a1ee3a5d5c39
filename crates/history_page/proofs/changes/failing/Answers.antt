use Rattle.std.proofs.Common.{sym, ◌∙◌, rules}
use Rattle.history_page.proofs.Down.{failing_down}
use Rattle.history_page.proofs.changes.failing.Goals as goal

pub returns-in-Err : goal.returns-in-Err
returns-in-Err g c =
    c.new.ensures.items
    ∙ sym (failing_down g.P.Application.app c.args.config.now c.args.id (c.in-Err.ensures.err (search rules)).1)
