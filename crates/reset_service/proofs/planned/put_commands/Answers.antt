use Rattle.std.proofs.Common.{arith}
use Rattle.action_tables.proofs.Prefixes.{OnErr-always}
use Rattle.action_tables.proofs.Pieces.{AppendsPrefix-piece}
use Rattle.reset_service.specs.Planned.{command_text}
use Rattle.reset_service.proofs.planned.put_commands.Goals as goal

pub returns-in_err-put_command-clause-err : goal.returns-in_err-put_command-clause-err
returns-in_err-put_command-clause-err g c =
    OnErr-always _ _
    (AppendsPrefix-piece _ _ _ command_text c.args.events.now c.loop-event.event-index _ (omega arith)
    c.loop-event.invariant c.in_err-put_command.ensures.err)
