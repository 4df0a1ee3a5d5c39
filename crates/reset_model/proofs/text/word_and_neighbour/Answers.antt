use Rattle.std.proofs.Common.{◌∙◌, refl}
use Rattle.reset_model.proofs.EventLines.{one_and_none, one_found}
use Rattle.reset_model.proofs.text.word_and_neighbour.Goals as goal

pub returns-in_err-read_number-in-Some-clause-only : goal.returns-in_err-read_number-in-Some-clause-only
returns-in_err-read_number-in-Some-clause-only c =
    rw c.from_residual.ensures
    (one_and_none c.args.text.now c.in-Some.word.now c.in-Some.number.now c.in-Some.ensures.found
    c.in_err-read_number-in-Some.ensures.only)

pub returns-in_ok-read_number-in-Some-clause-found : goal.returns-in_ok-read_number-in-Some-clause-found
returns-in_ok-read_number-in-Some-clause-found c =
    c.in-Some.ensures.found
    ∙ one_found c.in-Some.word.now c.in-Some.number.now c.in-Some.word.now c.in_ok-read_number-in-Some.field-0 refl
    c.in_ok-read_number-in-Some.ensures.found c.in_ok-read_number-in-Some.ensures.small
