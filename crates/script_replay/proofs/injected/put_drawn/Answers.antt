use Rattle.std.specs.Prelude.{codes}
use Rattle.std.proofs.Common.{[], ◌∷◌, ◌++◌, refl}
use Rattle.std.proofs.KnownBytes.{Appends-trans}
use Rattle.std.proofs.lemmas.Result.{on_ok_weaker}
use Rattle.action_tables.proofs.Prefixes.{AppendsPrefix-first, AppendsPrefix-then, OnErr-always, OnErr-then}
use Rattle.fault_inject.specs.FaultText.{fault_line}
use Rattle.script_replay.proofs.injected.put_drawn.Goals as goal

pub returns-in_err-put_bytes-clause-err : goal.returns-in_err-put_bytes-clause-err
returns-in_err-put_bytes-clause-err g c =
    OnErr-always _ _ (AppendsPrefix-first _ _ (codes "drawn ") _ c.in_err-put_bytes.ensures.err)

pub returns-in_err-write_fault-clause-err : goal.returns-in_err-write_fault-clause-err
returns-in_err-write_fault-clause-err g c =
    OnErr-always _ _
    (AppendsPrefix-then _ _ _ (codes "drawn ") _ c.in_ok-put_bytes.ensures.ok
    (AppendsPrefix-first _ _ (fault_line c.args.fault.now) (10 ∷ []) c.in_err-write_fault.ensures.err))

pub returns-clause-err : goal.returns-clause-err
returns-clause-err g c =
    OnErr-then _ _ _ _ (codes "drawn ") _ _ refl c.in_ok-put_bytes.ensures.ok
    (OnErr-then _ _ _ _ (fault_line c.args.fault.now) (10 ∷ []) _ refl c.in_ok-write_fault.ensures.ok
    c.put_bytes-2.ensures.err)

pub returns-clause-ok : goal.returns-clause-ok
returns-clause-ok g c =
    let line = fault_line c.args.fault.now in
    on_ok_weaker c.put_bytes-2.result
    (λ told. Appends-trans _ _ _ (codes "drawn ") (line ++ 10 ∷ []) c.in_ok-put_bytes.ensures.ok
    (Appends-trans _ _ _ line (10 ∷ []) c.in_ok-write_fault.ensures.ok told)) c.put_bytes-2.ensures.ok
