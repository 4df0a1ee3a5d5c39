use Rattle.topology.proofs.OneResult.{one_first_fault}
use Rattle.topology.proofs.laws.one_first_fault.Goals as goal

pub returns : goal.returns
returns c = one_first_fault
