use Rattle.command_words.specs.Words.{verify_command}
use Rattle.command_words.proofs.commands.verify_words.Goals as goal

pub returns : goal.returns
unfolding verify_command
returns c =
    let asked = c.with_argument-line.ensures _ _ c.texts_words-line.ensures c.flag_word.ensures in
    c.with_argument.ensures _ _ asked c.at_word.ensures
