use Rattle.command_words.proofs.Builders.{reads_help, reads_new, reads_required}
use Rattle.command_words.proofs.commands.path_word.Goals as goal

pub returns : goal.returns
returns c =
    let new = reads_new c.args.name.now c.new.result c.new.ensures.rule c.new.ensures.optional.1 in
    let required = reads_required _ _ c.new.result c.required.result new c.required.ensures in
    reads_help _ _ c.required.result c.help.result required c.help.ensures
