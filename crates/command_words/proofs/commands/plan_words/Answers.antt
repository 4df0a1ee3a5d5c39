use Rattle.command_words.specs.Words.{plan_command}
use Rattle.command_words.proofs.commands.plan_words.Goals as goal

pub returns : goal.returns
unfolding plan_command
returns c =
    let one = c.with_argument-line.ensures _ _ c.bare_words.ensures c.path_word.ensures in
    let two = c.with_argument-line-2.ensures _ _ one c.optional_path_word.ensures in
    c.with_argument.ensures _ _ two c.from_word.ensures
