use Rattle.fault_inject.proofs.FaultLines.{one_fault}
use Rattle.fault_inject.proofs.text.one_fault_a_line.Goals as goal

pub returns : goal.returns
returns c = one_fault
