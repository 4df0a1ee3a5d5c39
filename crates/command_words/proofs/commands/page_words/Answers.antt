use Rattle.command_words.specs.Words.{page_command}
use Rattle.command_words.proofs.commands.page_words.Goals as goal

pub returns : goal.returns
unfolding page_command
returns c =
    let one = c.with_argument-line.ensures _ _ c.bare_words.ensures c.path_word.ensures in
    let two = c.with_argument-line-2.ensures _ _ one c.path_word-2.ensures in
    let three = c.with_argument-line-3.ensures _ _ two c.from_word.ensures in
    c.with_argument.ensures _ _ three c.title_word.ensures
