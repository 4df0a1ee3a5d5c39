use Rattle.std.proofs.Common.{arith}
use Rattle.action_tables.proofs.Prefixes.{OnErr-always}
use Rattle.action_tables.proofs.Pieces.{AppendsPrefix-piece}
use Rattle.script_replay.specs.Output.{move_line}
use Rattle.script_replay.proofs.moves.put_moves.Goals as goal

pub returns-in_err-put_move-clause-err : goal.returns-in_err-put_move-clause-err
returns-in_err-put_move-clause-err g c =
    OnErr-always _ _
    (AppendsPrefix-piece _ _ _ move_line c.args.moves.now c.loop-event.event-index _ (omega arith)
    c.loop-event.invariant c.in_err-put_move.ensures.err)
