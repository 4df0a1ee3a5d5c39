use Rattle.command_words.proofs.Builders.{reads_help, reads_long, reads_new, reads_required, reads_value_name}
use Rattle.command_words.proofs.commands.option_word.Goals as goal

pub returns : goal.returns
returns c =
    let new = reads_new c.args.name.now c.new.result c.new.ensures.rule c.new.ensures.optional.1 in
    let long = reads_long _ _ c.new.result c.long.result new c.long.ensures in
    let named = reads_value_name _ _ c.long.result c.value_name.result long c.value_name.ensures in
    let required = reads_required _ _ c.value_name.result c.required.result named c.required.ensures in
    reads_help _ _ c.required.result c.help.result required c.help.ensures
