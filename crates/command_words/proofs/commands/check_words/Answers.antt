use Rattle.command_words.specs.Words.{check_command}
use Rattle.command_words.proofs.commands.check_words.Goals as goal

pub returns : goal.returns
unfolding check_command
returns c =
    let repaired = c.with_argument-line.ensures _ _ c.texts_words-line.ensures c.flag_word.ensures in
    c.with_argument.ensures _ _ repaired c.flag_word-2.ensures
