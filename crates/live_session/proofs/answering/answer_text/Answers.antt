use Rattle.std.proofs.Common.{sym, ◌∙◌}
use Rattle.std.proofs.lemmas.Result.{IfOk-weaker}
use Rattle.live_session.proofs.answering.answer_text.Goals as goal

pub returns-in-Asks : goal.returns-in-Asks
returns-in-Asks g c =
    rw (sym c.in_ok-read_line.ensures.read ∙ c.in-Asks.is)
    (IfOk-weaker c.answer_asked.result _ _ (λ left is. is c.args.number c.args.line.now) c.answer_asked.ensures)
