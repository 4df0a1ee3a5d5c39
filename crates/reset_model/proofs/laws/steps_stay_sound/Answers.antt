use Rattle.reset_model.proofs.SoundSteps.{sound_stays}
use Rattle.reset_model.proofs.laws.steps_stay_sound.Goals as goal

pub returns : goal.returns
returns c = sound_stays
