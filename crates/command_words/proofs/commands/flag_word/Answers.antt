use Rattle.command_words.proofs.Builders.{reads_action, reads_help, reads_long, reads_new}
use Rattle.command_words.proofs.commands.flag_word.Goals as goal

pub returns : goal.returns
returns c =
    let new = reads_new c.args.name.now c.new.result c.new.ensures.rule c.new.ensures.optional.1 in
    let long = reads_long _ _ c.new.result c.long.result new c.long.ensures in
    let acts = reads_action _ _ c.long.result c.action.result long c.action.ensures in
    reads_help _ _ c.action.result c.help.result acts c.help.ensures
