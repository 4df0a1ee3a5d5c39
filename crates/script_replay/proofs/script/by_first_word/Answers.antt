use Rattle.std.proofs.Common.{◌∙◌}
use Rattle.reset_model.specs.EventText.{event_words}
use Rattle.reset_model.proofs.WordLines.{line-words, line_found, no_line_found}
use Rattle.script_replay.specs.Script.{command_words}
use Rattle.script_replay.proofs.CommandLines.{no_command, words_of-plain_line}
use Rattle.script_replay.proofs.script.by_first_word.Goals as goal

pub returns-in-None-clause-found : goal.returns-in-None-clause-found
returns-in-None-clause-found c =
    line_found command_words c.args.line.now _ _ c.in-None.ensures.only c.by_one_word.ensures.found

pub returns-in-None-clause-only : goal.returns-in-None-clause-only
returns-in-None-clause-only c =
    no_line_found command_words words_of-plain_line c.args.line.now _ c.by_one_word.result c.in-None.ensures.only
    c.by_one_word.ensures.only

pub returns-in-Some-split_word-clause-found : goal.returns-in-Some-split_word-clause-found
returns-in-Some-split_word-clause-found c =
    line_found command_words c.args.line.now _ _ c.in-Some-split_word.ensures.found c.question_of.ensures.found

pub returns-in-Some-split_word-clause-only : goal.returns-in-Some-split_word-clause-only
returns-in-Some-split_word-clause-only c =
    no_line_found command_words words_of-plain_line c.args.line.now _ _ c.in-Some-split_word.ensures.found
    (no_command c.in-Some-split_word.word.now c.in-Some-split_word.rest.now _
    (λ e fits is. c.in_default.ensures.only e fits
    (line-words c.args.line.now (event_words e) (c.in-Some-split_word.ensures.found ∙ is)))
    c.question_of.ensures.only)
