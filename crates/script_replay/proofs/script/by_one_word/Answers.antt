use Rattle.script_replay.proofs.CommandLines.{no_word}
use Rattle.script_replay.proofs.script.by_one_word.Goals as goal

pub returns-in-None-clause-only : goal.returns-in-None-clause-only
returns-in-None-clause-only c =
    no_word c.args.word.now c.by_word_of_rules.result c.in-None.ensures.only c.by_word_of_rules.ensures.only
