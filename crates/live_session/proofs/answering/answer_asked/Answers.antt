use Rattle.std.proofs.Common.{rules, ◌≡◌, false}
use Rattle.applications.specs.Meaning.{meaning_of}
use Rattle.script_replay.specs.declared.script.Line.TheVariants.{Asks}
use Rattle.live_session.specs.Course.{asks_for_change}
use Rattle.live_session.proofs.Questions.{question_answered}
use Rattle.live_session.proofs.answering.answer_asked.Goals as goal

pub returns-then-not-asks_for_change : goal.returns-then-not-asks_for_change
returns-then-not-asks_for_change g c n text =
    let m =
    meaning_of g.P.Application.app g.P.Application.text g.P.Application.from_text g.P.Application.names
    g.P.Invariant.counts in
    let asks : asks_for_change (Asks c.args.command) ≡ false = search rules in
    question_answered m c.args.config.now c.args.room n text c.args.command c.answer_question.new.config c.args.batch.now
    c.answer_question.new.batch asks c.in_ok-answer_question.ensures.config
    c.in_ok-answer_question.ensures.answers c.in_ok-answer_question.ensures.entries
