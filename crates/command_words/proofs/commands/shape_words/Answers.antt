use Rattle.command_words.specs.Words.{topology_command}
use Rattle.command_words.proofs.commands.shape_words.Goals as goal

pub returns : goal.returns
unfolding topology_command
returns c =
    let one = c.with_argument-line.ensures _ _ c.bare_words.ensures c.path_word.ensures in
    let two = c.with_argument-line-2.ensures _ _ one c.nodes_word.ensures in
    let three = c.with_argument-line-3.ensures _ _ two c.seed_word.ensures in
    c.with_argument.ensures _ _ three c.app_word.ensures
