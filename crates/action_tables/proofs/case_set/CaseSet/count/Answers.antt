use Rattle.action_tables.proofs.NumberSets.{numbers_of-count}
use Rattle.action_tables.proofs.case_set.CaseSet.count.Goals as goal

pub returns : goal.returns
returns c = rw (← c.self.view_is) (numbers_of-count _ c.self.invariant)
