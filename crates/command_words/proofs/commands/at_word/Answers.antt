use Rattle.command_words.proofs.commands.at_word.Goals as goal

pub returns : goal.returns
returns c = c.number_word.ensures _ c.option_word-at.ensures
