use Rattle.std.specs.Prelude.{codes}
use Rattle.std.proofs.Common.{arith, rules}
use Rattle.std.proofs.lemmas.Slice.Eq.{text_from_reads}
use Rattle.reset_model.proofs.EventLines.{one_found}
use Rattle.script_replay.proofs.CommandLines.{no_question}
use Rattle.script_replay.proofs.script.question_of.Goals as goal

pub returns-in_err-number-clause-only : goal.returns-in_err-number-clause-only
returns-in_err-number-clause-only c =
    rw c.from_residual.ensures (no_question c.args.word.now c.args.rest.now c.in_err-number.ensures.only)

pub returns-in-show-clause-found : goal.returns-in-show-clause-found
returns-in-show-clause-found c =
    one_found c.args.word.now c.args.rest.now (codes "show") c.in_ok-number.number
    (text_from_reads c.args.word.now (codes "show") (omega arith)
    (omega arith, (omega arith, (omega arith, (omega arith, tt))))) c.in_ok-number.ensures.found (search rules)

pub returns-in-enabled-clause-found : goal.returns-in-enabled-clause-found
returns-in-enabled-clause-found c =
    one_found c.args.word.now c.args.rest.now (codes "enabled") c.in_ok-number.number
    (text_from_reads c.args.word.now (codes "enabled") (omega arith)
    (omega arith, (omega arith, (omega arith, (omega arith, (omega arith, (omega arith, (omega arith, tt)))))))) c.in_ok-number.ensures.found (search rules)

pub returns-in-check-clause-found : goal.returns-in-check-clause-found
returns-in-check-clause-found c =
    one_found c.args.word.now c.args.rest.now (codes "check") c.in_ok-number.number
    (text_from_reads c.args.word.now (codes "check") (omega arith)
    (omega arith, (omega arith, (omega arith, (omega arith, (omega arith, tt)))))) c.in_ok-number.ensures.found (search rules)

pub returns-in-alarm-clause-found : goal.returns-in-alarm-clause-found
returns-in-alarm-clause-found c =
    one_found c.args.word.now c.args.rest.now (codes "alarm") c.in_ok-number.number
    (text_from_reads c.args.word.now (codes "alarm") (omega arith)
    (omega arith, (omega arith, (omega arith, (omega arith, (omega arith, tt)))))) c.in_ok-number.ensures.found (search rules)

pub returns-in-watch-clause-found : goal.returns-in-watch-clause-found
returns-in-watch-clause-found c =
    one_found c.args.word.now c.args.rest.now (codes "watch") c.in_ok-number.number
    (text_from_reads c.args.word.now (codes "watch") (omega arith)
    (omega arith, (omega arith, (omega arith, (omega arith, (omega arith, tt)))))) c.in_ok-number.ensures.found (search rules)

pub returns-in-draw-clause-found : goal.returns-in-draw-clause-found
returns-in-draw-clause-found c =
    one_found c.args.word.now c.args.rest.now (codes "draw") c.in_ok-number.number
    (text_from_reads c.args.word.now (codes "draw") (omega arith)
    (omega arith, (omega arith, (omega arith, (omega arith, tt))))) c.in_ok-number.ensures.found (search rules)

pub returns-in-moves-clause-found : goal.returns-in-moves-clause-found
returns-in-moves-clause-found c =
    one_found c.args.word.now c.args.rest.now (codes "moves") c.in_ok-number.number
    (text_from_reads c.args.word.now (codes "moves") (omega arith)
    (omega arith, (omega arith, (omega arith, (omega arith, (omega arith, tt)))))) c.in_ok-number.ensures.found (search rules)
