use Rattle.reset_model.proofs.OneBoot.{one_boot as one_configuration}
use Rattle.reset_model.proofs.laws.one_boot.Goals as goal

pub returns : goal.returns
returns g c = one_configuration g.P.Application.app
