use Rattle.std.proofs.Common.{refl}
use Rattle.tree_layer.proofs.table.tree_rows.Goals as goal

pub returns : goal.returns
returns c v asked = refl
