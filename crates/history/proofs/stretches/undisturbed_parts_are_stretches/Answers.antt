use Rattle.history.proofs.StretchRuns.{stretch_there}
use Rattle.history.proofs.stretches.undisturbed_parts_are_stretches.Goals as goal

pub returns : goal.returns
returns g c = stretch_there g.P.Application.app g.P.Application.from_text
