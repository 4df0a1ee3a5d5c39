use Rattle.tree_layer.proofs.Booting.{AreFound}
use Rattle.tree_layer.proofs.boot.fill_distances.Given as goal

abbrev pub invariant-loop-index : goal.invariant-loop-index
invariant-loop-index l = AreFound l.topology l.index l.distances
