use Rattle.tree_layer.proofs.TreePictures.{rests_where_picture}
use Rattle.tree_layer.proofs.laws.tree_pictures.Goals as goal

pub returns : goal.returns
returns c = rests_where_picture
