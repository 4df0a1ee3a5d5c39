use Rattle.action_tables.proofs.NumberSets.{numbers_of-listed}
use Rattle.action_tables.proofs.case_set.CaseSet.lemma_is_listed.Goals as goal

pub returns : goal.returns
returns c = rw (← c.self.view_is) (numbers_of-listed _)
