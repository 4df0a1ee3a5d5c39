use Rattle.std.proofs.Common.{arith}
use Rattle.action_tables.proofs.Prefixes.{OnErr-always}
use Rattle.action_tables.specs.RowText.{case_above}
use Rattle.action_tables.proofs.Pieces.{AppendsPrefix-piece}
use Rattle.action_tables.proofs.part.put_cases_above.Goals as goal

pub returns-in_err-put_case_above-clause-err : goal.returns-in_err-put_case_above-clause-err
returns-in_err-put_case_above-clause-err g c =
    OnErr-always _ _
    (AppendsPrefix-piece _ _ _ (case_above c.args.set c.args.number) c.args.cases.now c.loop-case.case-index _
    (omega arith) c.loop-case.invariant c.in_err-put_case_above.ensures.err)
