use Rattle.std.proofs.Common.{rules, Some, ◌∙◌}
use Rattle.std.specs.Fmt.{decimal}
use Rattle.reset_model.proofs.EventLines.{one_and_none, one_found}
use Rattle.reset_model.proofs.text.two_numbers.Goals as goal

pub returns-in_err-read_number-2-clause-only : goal.returns-in_err-read_number-2-clause-only
returns-in_err-read_number-2-clause-only c =
    rw c.from_residual-in_err-read_number-2.ensures
    (λ m n _ small. one_and_none c.args.text.now c.in_ok-first.first.now c.in_ok-first.second.now
    c.in_ok-first.ensures.found c.in_err-read_number-2.ensures.only (decimal m) (Some n) small)

pub returns-clause-found : goal.returns-clause-found
returns-clause-found c =
    c.in_ok-first.ensures.found
    ∙ one_found c.in_ok-first.first.now c.in_ok-first.second.now (decimal c.in_ok-read_number.field-0)
    c.in_ok-read_number-2.field-0 c.in_ok-read_number.ensures.found c.in_ok-read_number-2.ensures.found
    (search rules)
