use Rattle.std.proofs.Common.{◌∷◌, [], refl}
use Rattle.std.specs.Fmt.{decimal}
use Rattle.action_tables.proofs.Prefixes.{AppendsPrefix-first, AppendsPrefix-then, OnErr-always}
use Rattle.reset_model.proofs.EventLines.{act_begun, act_ended}
use Rattle.reset_model.proofs.text.put_act.Goals as goal

pub returns-in_err-put_command_of_two-clause-err : goal.returns-in_err-put_command_of_two-clause-err
returns-in_err-put_command_of_two-clause-err g c =
    OnErr-always _ _
    (act_begun _ _ c.args.at c.args.case _ c.args.with c.from.ensures c.in_err-put_command_of_two.ensures.err)

pub returns-in_err-put_bytes-clause-err : goal.returns-in_err-put_bytes-clause-err
returns-in_err-put_bytes-clause-err g c =
    OnErr-always _ _
    (act_ended _ _ _ c.args.at c.args.case _ c.args.with c.in-Some.near c.in-Some.near c.from.ensures c.in-Some.is
    refl
    c.in_ok-put_command_of_two.ensures.ok
    (AppendsPrefix-first _ _ (32 ∷ []) (decimal c.in-Some.near) c.in_err-put_bytes.ensures.err))

pub returns-in_err-put_number-clause-err : goal.returns-in_err-put_number-clause-err
returns-in_err-put_number-clause-err g c =
    OnErr-always _ _
    (act_ended _ _ _ c.args.at c.args.case _ c.args.with c.in-Some.near _ c.from.ensures c.in-Some.is
    c.from-in-Some.ensures
    c.in_ok-put_command_of_two.ensures.ok
    (AppendsPrefix-then _ _ _ (32 ∷ []) (decimal c.from-in-Some.result) c.in_ok-put_bytes.ensures.ok
    c.in_err-put_number.ensures.err))
