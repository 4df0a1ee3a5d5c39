use Rattle.command_words.specs.Words.{picture_command}
use Rattle.command_words.proofs.commands.picture_words.Goals as goal

pub returns : goal.returns
unfolding picture_command
returns c =
    let rows = c.with_argument-line.ensures _ _ c.texts_words-line.ensures c.rows_word.ensures in
    c.with_argument.ensures _ _ rows c.drawn_nodes_word.ensures
