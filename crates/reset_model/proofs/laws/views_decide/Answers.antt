use Rattle.reset_model.proofs.ViewedOutcomes.{outcome-is}
use Rattle.reset_model.proofs.laws.views_decide.Goals as goal

pub returns : goal.returns
returns g c = λ k e graph. outcome-is g.P.Application.app k graph e
