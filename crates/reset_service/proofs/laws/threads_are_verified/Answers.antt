use Rattle.reset_service.proofs.KeptRuns.{threads_verified}
use Rattle.reset_service.proofs.laws.threads_are_verified.Goals as goal

pub returns : goal.returns
returns c = threads_verified
