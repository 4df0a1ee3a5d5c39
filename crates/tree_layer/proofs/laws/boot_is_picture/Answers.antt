use Rattle.tree_layer.proofs.TreePictures.{booted_picture}
use Rattle.tree_layer.proofs.laws.boot_is_picture.Goals as goal

pub returns : goal.returns
returns c = booted_picture
