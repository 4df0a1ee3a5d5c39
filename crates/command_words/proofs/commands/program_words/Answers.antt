use Rattle.std.proofs.Common.{◌∙◌, ap, true}
use Rattle.clap.specs.Simple.{app_of_fields, on_top}
use Rattle.clap.specs.declared.builder.command.Command.{Command}
use Rattle.clap.specs.declared.builder.command.Command.TheOpen.{Command-F}
use Rattle.command_words.specs.Words.{IsCommand}
use Rattle.command_words.proofs.commands.program_words.Goals as goal

pub returns : goal.returns
unfolding IsCommand
returns c = (
  ap app_of_fields c.after_help.ensures ∙ ap app_of_fields c.long_about.ensures ∙ ap app_of_fields c.about.ensures
      ∙ ap app_of_fields c.version.ensures ∙ ap (on_top (λ s. record s { has_version = true })) c.new.ensures.app,
  ap (λ (f : Command-F Command). f.has_globals) c.after_help.ensures
      ∙ ap (λ (f : Command-F Command). f.has_globals) c.long_about.ensures
      ∙ ap (λ (f : Command-F Command). f.has_globals) c.about.ensures
      ∙ ap (λ (f : Command-F Command). f.has_globals) c.version.ensures ∙ c.new.ensures.local,
)
