use Rattle.std.proofs.Common.{arith}
use Rattle.action_tables.proofs.Prefixes.{OnErr-always}
use Rattle.action_tables.proofs.Pieces.{AppendsPrefix-piece}
use Rattle.script_replay.specs.Output.{fault_line}
use Rattle.script_replay.proofs.faults.put_fault_lines.Goals as goal

pub returns-in_err-put_fault-clause-err : goal.returns-in_err-put_fault-clause-err
returns-in_err-put_fault-clause-err g c =
    OnErr-always _ _
    (AppendsPrefix-piece _ _ _ (fault_line c.args.repairs) c.args.faults.now c.loop-fault.fault-index _ (omega arith)
    c.loop-fault.invariant c.in_err-put_fault.ensures.err)
