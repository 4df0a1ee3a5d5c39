use Rattle.reset_model.proofs.ConfigurationSteps.{outcome_steps}
use Rattle.reset_model.proofs.laws.outcomes_are_steps.Goals as goal

pub returns : goal.returns
returns g c = λ d e graph shaped. outcome_steps g.P.Application.app d graph shaped e
