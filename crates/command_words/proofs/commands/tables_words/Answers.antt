use Rattle.std.proofs.Common.{◌∙◌, ap}
use Rattle.clap.specs.Simple.{app_of_fields}
use Rattle.clap.specs.declared.builder.command.Command.{Command}
use Rattle.clap.specs.declared.builder.command.Command.TheOpen.{Command-F}
use Rattle.command_words.specs.Words.{IsCommand, tables_command}
use Rattle.command_words.proofs.commands.tables_words.Goals as goal

pub returns : goal.returns
unfolding IsCommand tables_command
returns c = (
  ap app_of_fields c.long_about.ensures ∙ ap app_of_fields c.about.ensures ∙ c.new.ensures.app,
  ap (λ (f : Command-F Command). f.has_globals) c.long_about.ensures
      ∙ ap (λ (f : Command-F Command). f.has_globals) c.about.ensures ∙ c.new.ensures.local,
)
