use Rattle.std.proofs.Common.{Result, subst}
use Rattle.std.specs.Prelude.{IfOk}
use Rattle.std.proofs.lemmas.Result.{IfOk-weaker}
use Rattle.std.specs.declared.alloc.AllocError.{AllocError}
use Rattle.clap.specs.declared.builder.command.Command.{Command}
use Rattle.command_words.specs.Words.{IsCommand}
use Rattle.command_words.proofs.Builders.{adds_word}
use Rattle.command_words.proofs.commands.with_argument.Goals as goal

pub returns : goal.returns
returns c = λ app rule is reads.
    let was = subst (λ (r : Result Command AllocError). IfOk r (IsCommand app)) c.in_ok-line.was is in
    IfOk-weaker c.arg.result _ _ (λ new adds. adds_word app rule _ _ new was reads adds) c.arg.ensures
