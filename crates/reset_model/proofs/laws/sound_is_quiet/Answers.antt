use Rattle.reset_model.proofs.SoundSteps.{sound_rests}
use Rattle.reset_model.proofs.laws.sound_is_quiet.Goals as goal

pub returns : goal.returns
returns c = sound_rests
