use Rattle.reset_model.proofs.CompleteResets.{completed}
use Rattle.reset_model.proofs.laws.completions_are_true.Goals as goal

pub returns : goal.returns
returns c = completed
