use Rattle.std.proofs.Common.{arith}
use Rattle.action_tables.proofs.Prefixes.{OnErr-always}
use Rattle.action_tables.proofs.Pieces.{AppendsPrefix-piece}
use Rattle.script_replay.specs.Output.{spaced}
use Rattle.script_replay.proofs.rows.put_ids.Goals as goal

pub returns-in_err-put_id-clause-err : goal.returns-in_err-put_id-clause-err
returns-in_err-put_id-clause-err g c =
    OnErr-always _ _
    (AppendsPrefix-piece _ _ _ spaced c.args.ids.now c.loop-id.id-index _ (omega arith) c.loop-id.invariant
    c.in_err-put_id.ensures.err)
