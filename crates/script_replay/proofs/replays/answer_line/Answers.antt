use Rattle.std.proofs.Common.{[], ◌∙◌, refl, sym}
use Rattle.std.proofs.KnownBytes.{Appends-nil}
use Rattle.action_tables.proofs.Prefixes.{OnErr-always}
use Rattle.script_replay.proofs.replays.answer_line.Goals as goal

pub returns-in_err-read_line-clause-err : goal.returns-in_err-read_line-clause-err
returns-in_err-read_line-clause-err g c =
    OnErr-always c.from_residual.result _
    (record { prefix = []; rest = _; cut = refl; appended = Appends-nil (g.W.Write.contents c.args.out.now) })

pub returns-in-Silent-clause-ok : goal.returns-in-Silent-clause-ok
returns-in-Silent-clause-ok g c =
    rw (sym c.in_ok-read_line.ensures.read ∙ c.in-Silent.is)
    (refl, refl, Appends-nil (g.W.Write.contents c.args.out.now))

pub returns-in_err-answer-in-Asks-clause-err : goal.returns-in_err-answer-in-Asks-clause-err
returns-in_err-answer-in-Asks-clause-err g c =
    rw (sym c.in_ok-read_line.ensures.read ∙ c.in-Asks.is) (OnErr-always _ _ c.in_err-answer-in-Asks.ensures.err)

pub returns-in_ok-answer-in-Asks-clause-ok : goal.returns-in_ok-answer-in-Asks-clause-ok
returns-in_ok-answer-in-Asks-clause-ok g c =
    rw (sym c.in_ok-read_line.ensures.read ∙ c.in-Asks.is)
    (refl, c.in_ok-answer-in-Asks.ensures.ok.0, c.in_ok-answer-in-Asks.ensures.ok.1)

pub returns-in_err-put_bad_line-in-Bad-clause-err : goal.returns-in_err-put_bad_line-in-Bad-clause-err
returns-in_err-put_bad_line-in-Bad-clause-err g c =
    rw (sym c.in_ok-read_line.ensures.read ∙ c.in-Bad.is) (OnErr-always _ _ c.in_err-put_bad_line-in-Bad.ensures.err)

pub returns-in_ok-put_bad_line-in-Bad-clause-ok : goal.returns-in_ok-put_bad_line-in-Bad-clause-ok
returns-in_ok-put_bad_line-in-Bad-clause-ok g c =
    rw (sym c.in_ok-read_line.ensures.read ∙ c.in-Bad.is) (refl, refl, c.in_ok-put_bad_line-in-Bad.ensures.ok)
