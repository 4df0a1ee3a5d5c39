use Rattle.std.specs.Prelude.{codes}
use Rattle.std.proofs.Common.{refl}
use Rattle.action_tables.proofs.Prefixes.{AppendsPrefix-first, OnErr-always, OnErr-then}
use Rattle.script_replay.proofs.faults.put_repair_event.Goals as goal

pub returns-in_err-put_bytes-clause-err : goal.returns-in_err-put_bytes-clause-err
returns-in_err-put_bytes-clause-err g c =
    OnErr-always _ _ (AppendsPrefix-first _ _ (codes " -> ") _ c.in_err-put_bytes.ensures.err)

pub returns-clause-err : goal.returns-clause-err
returns-clause-err g c =
    OnErr-then _ _ _ _ (codes " -> ") _ _ refl c.in_ok-put_bytes.ensures.ok c.write_event.ensures.err
