use Rattle.std.specs.Prelude.{codes}
use Rattle.std.proofs.Common.{length, refl}
use Rattle.std.specs.List.{flat_map}
use Rattle.action_tables.proofs.Prefixes.{AppendsPrefix-first, OnErr-always, OnErr-then}
use Rattle.script_replay.specs.Output.{fault_line, faults_text, numbered}
use Rattle.script_replay.proofs.faults.put_faults.Goals as goal

pub returns-in_err-put_fault_lines-clause-err : goal.returns-in_err-put_fault_lines-clause-err
returns-in_err-put_fault_lines-clause-err g c =
    OnErr-always _ _
    (AppendsPrefix-first _ _ (flat_map (fault_line c.args.repairs) c.args.faults.now)
    (numbered (codes "faults ") (length c.args.faults.now)) c.in_err-put_fault_lines.ensures.err)

pub returns-clause-err : goal.returns-clause-err
returns-clause-err g c =
    OnErr-then c.put_numbered.result (g.W.Write.contents c.args.out.now) (g.W.Write.contents c.put_fault_lines.new.out)
    (g.W.Write.contents c.put_numbered.new.out)
    (flat_map (fault_line c.args.repairs) c.args.faults.now) (numbered (codes "faults ") (length c.args.faults.now))
    (faults_text c.args.repairs c.args.faults.now) refl
    c.in_ok-put_fault_lines.ensures.ok c.put_numbered.ensures.err
