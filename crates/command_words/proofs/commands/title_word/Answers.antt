use Rattle.command_words.proofs.commands.title_word.Goals as goal

pub returns : goal.returns
returns c = c.option_word.ensures
