use Rattle.std.proofs.Common.{[], ◌∷◌, ◌++◌}
use Rattle.std.specs.Fmt.{decimal}
use Rattle.std.proofs.KnownBytes.{Appends-trans}
use Rattle.std.proofs.lemmas.Result.{on_err_weaker, on_ok_weaker}
use Rattle.action_tables.proofs.Prefixes.{AppendsPrefix-first, AppendsPrefix-then, OnErr-always}
use Rattle.script_replay.proofs.answer.put_numbered.Goals as goal

pub returns-in_err-put_bytes-clause-err : goal.returns-in_err-put_bytes-clause-err
returns-in_err-put_bytes-clause-err g c =
    OnErr-always _ _
    (AppendsPrefix-first _ _ c.args.text.now (decimal c.args.number ++ 10 ∷ []) c.in_err-put_bytes.ensures.err)

pub returns-in_err-put_number-clause-err : goal.returns-in_err-put_number-clause-err
returns-in_err-put_number-clause-err g c =
    OnErr-always _ _
    (AppendsPrefix-then _ _ _ c.args.text.now (decimal c.args.number ++ 10 ∷ []) c.in_ok-put_bytes.ensures.ok
    (AppendsPrefix-first _ _ (decimal c.args.number) (10 ∷ []) c.in_err-put_number.ensures.err))

pub returns-clause-err : goal.returns-clause-err
returns-clause-err g c =
    on_err_weaker _
    (λ h. AppendsPrefix-then _ _ _ c.args.text.now (decimal c.args.number ++ 10 ∷ []) c.in_ok-put_bytes.ensures.ok
    (AppendsPrefix-then _ _ _ (decimal c.args.number) (10 ∷ []) c.in_ok-put_number.ensures.ok h))
    c.put_bytes-2.ensures.err

pub returns-clause-ok : goal.returns-clause-ok
returns-clause-ok g c =
    on_ok_weaker c.put_bytes-2.result
    (λ told. Appends-trans _ _ _ c.args.text.now (decimal c.args.number ++ 10 ∷ []) c.in_ok-put_bytes.ensures.ok
    (Appends-trans _ _ _ (decimal c.args.number) (10 ∷ []) c.in_ok-put_number.ensures.ok told))
    c.put_bytes-2.ensures.ok
