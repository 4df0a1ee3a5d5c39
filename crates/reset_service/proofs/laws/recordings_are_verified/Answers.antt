use Rattle.reset_service.proofs.RecordedRuns.{recordings_verified}
use Rattle.reset_service.proofs.laws.recordings_are_verified.Goals as goal

pub returns : goal.returns
returns c =
    λ topology script history output g app modulus describes short is.
    recordings_verified script history output short topology g app modulus describes is
