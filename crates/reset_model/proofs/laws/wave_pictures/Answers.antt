use Rattle.reset_model.proofs.WavePictures.{sound_where_picture}
use Rattle.reset_model.proofs.laws.wave_pictures.Goals as goal

pub returns : goal.returns
returns c = sound_where_picture
