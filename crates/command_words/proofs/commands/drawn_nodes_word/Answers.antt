use Rattle.command_words.proofs.commands.drawn_nodes_word.Goals as goal

pub returns : goal.returns
returns c = c.option_word.ensures
