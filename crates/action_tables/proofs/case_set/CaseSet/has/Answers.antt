use Rattle.std.proofs.Common.{◌∙◌, ◌==◌, arith, sym, ap}
use Rattle.std.proofs.lemmas.Nat.Bits.{shr_and_one}
use Rattle.action_tables.proofs.NumberSets.{is_among-case, is_among-other}
use Rattle.action_tables.proofs.case_set.CaseSet.has.Goals as goal
use Rattle.action_tables.proofs.case_set.CaseSet.has.Goals.{then-case-lt1-via-then-case-lt1}
use Rattle.action_tables.proofs.case_set.CaseSet.has.Goals.{then-case-lt1-via-else-case-lt1+then-case-gt-MOST_CASES}

pub returns-then-case-lt1 : goal.returns-then-case-lt1
returns-then-case-lt1 c =
    rw (← c.self.view_is)
    (sym (is_among-other _ _ (λ is. elim c.then-case-lt1.branch [
      | then-case-lt1-via-then-case-lt1 w ↦ absurd (omega (arith, is.first))
      | then-case-lt1-via-else-case-lt1+then-case-gt-MOST_CASES w ↦ absurd (omega (arith, is.last))
    ])))

pub returns : goal.returns
returns c =
    rw (← c.self.view_is) (ap (λ b. b == 1) (shr_and_one _ _) ∙ sym (is_among-case _ _ (omega arith) (omega arith)))
