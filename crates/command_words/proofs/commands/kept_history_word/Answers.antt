use Rattle.command_words.proofs.commands.kept_history_word.Goals as goal

pub returns : goal.returns
returns c = c.option_word.ensures
