use Rattle.std.proofs.Common.{◌∷◌, [], ◌++◌}
use Rattle.std.specs.Fmt.{decimal}
use Rattle.std.proofs.lemmas.Result.{on_err_weaker}
use Rattle.action_tables.proofs.Prefixes.{AppendsPrefix-first, AppendsPrefix-then, OnErr-always}
use Rattle.reset_model.proofs.text.put_command_of_two.Goals as goal

pub returns-in_err-put_command-clause-err : goal.returns-in_err-put_command-clause-err
returns-in_err-put_command-clause-err g c =
    OnErr-always _ _
    (AppendsPrefix-first _ _ (c.args.command.now ++ (32 ∷ decimal c.args.at)) (32 ∷ decimal c.args.other)
    c.in_err-put_command.ensures.err)

pub returns-in_err-put_bytes-clause-err : goal.returns-in_err-put_bytes-clause-err
returns-in_err-put_bytes-clause-err g c =
    OnErr-always _ _
    (AppendsPrefix-then _ _ _ (c.args.command.now ++ (32 ∷ decimal c.args.at)) (32 ∷ decimal c.args.other)
    c.in_ok-put_command.ensures.ok
    (AppendsPrefix-first _ _ (32 ∷ []) (decimal c.args.other) c.in_err-put_bytes.ensures.err))

pub returns-clause-err : goal.returns-clause-err
returns-clause-err g c =
    on_err_weaker _
    (λ h. AppendsPrefix-then _ _ _ (c.args.command.now ++ (32 ∷ decimal c.args.at)) (32 ∷ decimal c.args.other)
    c.in_ok-put_command.ensures.ok
    (AppendsPrefix-then _ _ _ (32 ∷ []) (decimal c.args.other) c.in_ok-put_bytes.ensures.ok h))
    (rw (← c.from.ensures) c.put_number.ensures.err)
