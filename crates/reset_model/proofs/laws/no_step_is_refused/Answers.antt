use Rattle.reset_model.proofs.StepsOrRefusals.{step_or_refusal}
use Rattle.reset_model.proofs.laws.no_step_is_refused.Goals as goal

pub returns : goal.returns
returns g c = λ d d' e f graph step refused. step_or_refusal g.P.Application.app d d' e f graph step refused
