use Rattle.std.proofs.Common.{◌∙◌, arith, sym, ap, slice_get}
use Rattle.action_tables.specs.Numbers.{numbers_of}
use Rattle.action_tables.proofs.NumberSets.{numbers_of-zero, numbers_of-first}
use Rattle.action_tables.proofs.case_set.CaseSet.first.Goals as goal

pub returns-then-self-eq0 : goal.returns-then-self-eq0
returns-then-self-eq0 c =
    rw (← c.self.view_is)
    (sym (ap (λ s. slice_get (numbers_of s) 0) c.if-self-eq0.true ∙ ap (λ ns. slice_get ns 0) numbers_of-zero))

pub returns-else-self-eq0 : goal.returns-else-self-eq0
returns-else-self-eq0 c = rw (← c.self.view_is) (sym (numbers_of-first _ (omega arith) c.self.invariant))
