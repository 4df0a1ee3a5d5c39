use Rattle.reset_model.proofs.EventLines.{case_only, end_only}
use Rattle.reset_model.proofs.WordLines.{none_then}
use Rattle.reset_model.proofs.text.action_of.Goals as goal

pub returns-in_err-case-clause-only : goal.returns-in_err-case-clause-only
returns-in_err-case-clause-only c =
    rw c.from_residual-in_err-case.ensures
    (end_only c.args.text.now c.in_ok-at.at.now c.in_ok-at.rest.now c.in_ok-at.ensures.found
    c.in_err-case.ensures.only)

pub returns-clause-only : goal.returns-clause-only
returns-clause-only c =
    none_then c.act.result c.act.ensures.only
    (case_only c.args.text.now c.in_ok-at.at.now c.in_ok-at.rest.now c.in_ok-case.case.now c.in_ok-case.with
    c.in_ok-read_number-2.field-0 c.in_ok-at.ensures.found c.in_ok-case.ensures.found
    c.in_ok-read_number-2.ensures.found c.in_ok-read_number-2.ensures.small)
