use Rattle.std.proofs.Common.{[], ◌∷◌, ◌++◌}
use Rattle.std.proofs.lemmas.Result.{on_err_weaker}
use Rattle.action_tables.proofs.Prefixes.{AppendsPrefix-first, AppendsPrefix-then, OnErr-always}
use Rattle.diagnoses.specs.Said.{head_text}
use Rattle.diagnoses.proofs.said.put_said.Goals as goal

pub returns-in_err-put_head-clause-err : goal.returns-in_err-put_head-clause-err
returns-in_err-put_head-clause-err g c =
    OnErr-always _ _
    (AppendsPrefix-first _ _ (head_text c.args.name.now) (c.args.reason.now ++ 10 ∷ []) c.in_err-put_head.ensures.err)

pub returns-in_err-put_bytes-clause-err : goal.returns-in_err-put_bytes-clause-err
returns-in_err-put_bytes-clause-err g c =
    OnErr-always _ _
    (AppendsPrefix-then _ _ _ (head_text c.args.name.now) (c.args.reason.now ++ 10 ∷ []) c.in_ok-put_head.ensures.ok
    (AppendsPrefix-first _ _ c.args.reason.now (10 ∷ []) c.in_err-put_bytes.ensures.err))

pub returns-clause-err : goal.returns-clause-err
returns-clause-err g c =
    on_err_weaker _
    (λ h. AppendsPrefix-then _ _ _ (head_text c.args.name.now) (c.args.reason.now ++ 10 ∷ [])
    c.in_ok-put_head.ensures.ok
    (AppendsPrefix-then _ _ _ c.args.reason.now (10 ∷ []) c.in_ok-put_bytes.ensures.ok h))
    c.put_end.ensures.err
