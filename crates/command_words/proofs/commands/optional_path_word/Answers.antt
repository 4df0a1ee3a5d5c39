use Rattle.command_words.proofs.Builders.{reads_help, reads_new}
use Rattle.command_words.proofs.commands.optional_path_word.Goals as goal

pub returns : goal.returns
returns c =
    let new = reads_new c.args.name.now c.new.result c.new.ensures.rule c.new.ensures.optional.1 in
    reads_help _ _ c.new.result c.help.result new c.help.ensures
