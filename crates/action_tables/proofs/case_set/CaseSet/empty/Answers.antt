use Rattle.action_tables.proofs.NumberSets.{numbers_of-zero}
use Rattle.action_tables.proofs.case_set.CaseSet.empty.Goals as goal

pub returns : goal.returns
returns c = numbers_of-zero
