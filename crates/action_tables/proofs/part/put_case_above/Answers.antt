use Rattle.std.proofs.Common.{◌≡◌, [], ◌∷◌, arith}
use Rattle.std.proofs.lemmas.Bool.Decides.{nat_tests}
use Rattle.std.proofs.lemmas.Result.{on_err_weaker}
use Rattle.std.specs.Fmt.{decimal}
use Rattle.action_tables.specs.RowText.{case_above}
use Rattle.action_tables.proofs.Prefixes.{AppendsPrefix-first, AppendsPrefix-then, OnErr-always}
use Rattle.action_tables.proofs.part.put_case_above.Goals as goal

pub returns-in_err-put_bytes-clause-err : goal.returns-in_err-put_bytes-clause-err
returns-in_err-put_bytes-clause-err g c =
    let text : case_above c.args.set c.args.number c.args.case ≡ 44 ∷ decimal c.args.case = grind (arith, nat_tests) in
    rw text (OnErr-always _ _ (AppendsPrefix-first _ _ (44 ∷ []) (decimal c.args.case) c.in_err-put_bytes.ensures.err))

pub returns-in_ok-put_bytes-clause-err : goal.returns-in_ok-put_bytes-clause-err
returns-in_ok-put_bytes-clause-err g c =
    let text : case_above c.args.set c.args.number c.args.case ≡ 44 ∷ decimal c.args.case = grind (arith, nat_tests) in
    rw text (on_err_weaker _
    (λ h. AppendsPrefix-then _ _ _ (44 ∷ []) (decimal c.args.case) c.in_ok-put_bytes.ensures.ok h)
    (rw (← c.from.ensures) c.put_number.ensures.err))
