use Rattle.tree_layer.proofs.OneBoot.{one_boot as one_list}
use Rattle.tree_layer.proofs.laws.one_boot.Goals as goal

pub returns : goal.returns
returns c = one_list
