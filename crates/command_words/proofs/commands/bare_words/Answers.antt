use Rattle.std.proofs.Common.{refl}
use Rattle.command_words.specs.Words.{IsCommand}
use Rattle.command_words.proofs.Builders.{same_command}
use Rattle.command_words.proofs.commands.bare_words.Goals as goal

pub returns : goal.returns
unfolding IsCommand
returns c =
    let about = same_command _ c.new.result c.about.result _ (c.new.ensures.app, c.new.ensures.local) c.about.ensures refl refl in
    let long_about = same_command _ c.about.result c.long_about.result _ about c.long_about.ensures refl refl in
    same_command _ c.long_about.result c.after_help.result _ long_about c.after_help.ensures refl refl
