use Rattle.command_words.specs.Words.{explore_command}
use Rattle.command_words.proofs.commands.explore_words.Goals as goal

pub returns : goal.returns
unfolding explore_command
returns c =
    let one = c.with_argument-line.ensures _ _ c.bare_words.ensures c.path_word.ensures in
    let two = c.with_argument-line-2.ensures _ _ one c.optional_path_word.ensures in
    let three = c.with_argument-line-3.ensures _ _ two c.from_word.ensures in
    let four = c.with_argument-line-4.ensures _ _ three c.flag_word.ensures in
    let five = c.with_argument-line-5.ensures _ _ four c.most_word.ensures in
    let six = c.with_argument-line-6.ensures _ _ five c.target_word.ensures in
    c.with_argument.ensures _ _ six c.shown_history_word.ensures
