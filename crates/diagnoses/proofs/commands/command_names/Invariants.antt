use Rattle.std.proofs.Common.{All, length}
use Rattle.diagnoses.specs.Commands.{IsCommandName}
use Rattle.diagnoses.proofs.HelpLines.{AreLeft}
use Rattle.diagnoses.proofs.commands.command_names.Given as goal

abbrev pub invariant-loop-help : goal.invariant-loop-help
invariant-loop-help l = All (λ name. IsCommandName name.now) l.names.items × AreLeft l.rest

abbrev pub decreases-loop-help : goal.decreases-loop-help
decreases-loop-help l = length l.rest
