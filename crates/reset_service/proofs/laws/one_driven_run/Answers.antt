use Rattle.reset_service.proofs.Driving.{one_driven}
use Rattle.reset_service.proofs.laws.one_driven_run.Goals as goal

pub returns : goal.returns
returns c = one_driven
