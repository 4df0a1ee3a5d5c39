use Rattle.tree_layer.specs.TreeRows.{claimed}
use Rattle.reset_model.specs.Topologies.{comes_up}
use Rattle.reset_machine.proofs.Renewing.{AreRenewed}
use Rattle.reset_machine.proofs.renewal.renew_trees.Given as goal

abbrev pub invariant-loop-index : goal.invariant-loop-index
invariant-loop-index l = AreRenewed (comes_up l.old l.new) claimed l.new.ids l.index l.initial.trees l.trees
