use Rattle.std.proofs.Common.{◌∷◌, []}
use Rattle.std.specs.Fmt.{decimal}
use Rattle.std.proofs.lemmas.Result.{on_err_weaker}
use Rattle.action_tables.proofs.Prefixes.{AppendsPrefix-first, AppendsPrefix-then, OnErr-always}
use Rattle.reset_model.proofs.text.put_command.Goals as goal

pub returns-in_err-put_bytes-2-clause-err : goal.returns-in_err-put_bytes-2-clause-err
returns-in_err-put_bytes-2-clause-err g c =
    OnErr-always _ _ (AppendsPrefix-then _ _ _ c.args.command.now (32 ∷ decimal c.args.at) c.in_ok-put_bytes.ensures.ok
    (AppendsPrefix-first _ _ (32 ∷ []) (decimal c.args.at) c.in_err-put_bytes-2.ensures.err))

pub returns-clause-err : goal.returns-clause-err
returns-clause-err g c =
    on_err_weaker _
    (λ h. AppendsPrefix-then _ _ _ c.args.command.now (32 ∷ decimal c.args.at) c.in_ok-put_bytes.ensures.ok
    (AppendsPrefix-then _ _ _ (32 ∷ []) (decimal c.args.at) c.in_ok-put_bytes-2.ensures.ok h))
    (rw (← c.from.ensures) c.put_number.ensures.err)
