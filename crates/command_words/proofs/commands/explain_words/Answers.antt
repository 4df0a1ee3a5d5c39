use Rattle.command_words.specs.Words.{explain_command}
use Rattle.command_words.proofs.commands.explain_words.Goals as goal

pub returns : goal.returns
unfolding explain_command
returns c = c.with_argument.ensures _ _ c.bare_words.ensures c.optional_path_word.ensures
