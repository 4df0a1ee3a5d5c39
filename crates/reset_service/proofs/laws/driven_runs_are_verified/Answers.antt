use Rattle.reset_service.proofs.Driving.{drove_verified}
use Rattle.reset_service.proofs.laws.driven_runs_are_verified.Goals as goal

pub returns : goal.returns
returns c = drove_verified
