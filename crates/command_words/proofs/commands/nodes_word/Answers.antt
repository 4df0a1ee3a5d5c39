use Rattle.command_words.proofs.commands.nodes_word.Goals as goal

pub returns : goal.returns
returns c = c.number_word.ensures _ c.path_word.ensures
