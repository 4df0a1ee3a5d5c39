use Rattle.command_words.proofs.commands.from_word.Goals as goal

pub returns : goal.returns
returns c = c.option_word.ensures
