use Rattle.reset_model.proofs.Mending.{rests_where_sound}
use Rattle.reset_model.proofs.laws.mends_rest.Goals as goal

pub returns : goal.returns
returns c = rests_where_sound
