use Rattle.action_tables.proofs.NumberSets.{numbers_of-set}
use Rattle.action_tables.proofs.case_set.CaseSet.with.Goals as goal

pub returns : goal.returns
returns c = rw (← c.self.view_is) (numbers_of-set _ _ c.requires.first c.requires.last)
