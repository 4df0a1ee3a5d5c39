use Rattle.command_words.specs.Words.{replay_command}
use Rattle.command_words.proofs.commands.replay_words.Goals as goal

pub returns : goal.returns
unfolding replay_command
returns c =
    let numbered = c.with_argument-line.ensures _ _ c.texts_words-line.ensures c.flag_word.ensures in
    c.with_argument.ensures _ _ numbered c.flag_word-2.ensures
