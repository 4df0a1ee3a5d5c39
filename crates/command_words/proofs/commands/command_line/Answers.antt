use Rattle.std.proofs.Common.{◌≡◌}
use Rattle.std.proofs.lemmas.Result.{IfOk-weaker}
use Rattle.clap.specs.Words.{app_of}
use Rattle.clap.specs.declared.builder.command.Command.{Command}
use Rattle.command_words.specs.Words.{IsCommand, program}
use Rattle.command_words.proofs.commands.command_line.Goals as goal

is_app : (c : Command) → IsCommand program c → app_of c ≡ program
unfolding IsCommand
is_app c is = is.0

pub returns : goal.returns
unfolding program
returns c =
    let one = c.with_command-line.ensures _ _ c.histories_line.ensures c.shape_words.ensures in
    let two = c.with_command-line-2.ensures _ _ one c.explain_words.ensures in
    IfOk-weaker c.with_command.result _ _ is_app (c.with_command.ensures _ _ two c.tables_words.ensures)
