use Rattle.command_words.proofs.commands.rows_word.Goals as goal

pub returns : goal.returns
returns c = c.option_word.ensures
