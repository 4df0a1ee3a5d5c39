use Rattle.std.proofs.Common.{Result, subst}
use Rattle.std.specs.Prelude.{IfOk}
use Rattle.std.proofs.lemmas.Result.{IfOk-weaker}
use Rattle.std.specs.declared.alloc.AllocError.{AllocError}
use Rattle.clap.specs.declared.builder.command.Command.{Command}
use Rattle.command_words.specs.Words.{IsCommand}
use Rattle.command_words.proofs.Builders.{adds_subcommand}
use Rattle.command_words.proofs.commands.with_command.Goals as goal

pub returns : goal.returns
returns c = λ app below is also.
    let line = subst (λ (r : Result Command AllocError). IfOk r (IsCommand app)) c.in_ok-line.was is in
    let words = subst (λ (r : Result Command AllocError). IfOk r (IsCommand below)) c.in_ok-words.was also in
    IfOk-weaker c.subcommand.result _ _ (λ new adds. adds_subcommand app below _ _ new line words adds)
    c.subcommand.ensures
