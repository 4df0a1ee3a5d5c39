use Rattle.std.proofs.Common.{◌≡◌, ℕ, ◌<◌, length, slice_index, slice_index_or}
use Rattle.tree_layer.specs.declared.regs.TreeRegs.{TreeRegs}
use Rattle.tree_layer.specs.BootTree.{IsBootedOrDown}
use Rattle.tree_layer.proofs.boot.boot_tree.Given as goal

abbrev pub invariant-loop-ix : goal.invariant-loop-ix
invariant-loop-ix l = record {
  count : length l.trees.items ≡ l.ix;
  each : (k : ℕ) (regs : TreeRegs) → k < l.ix
      → IsBootedOrDown l.topology (slice_index l.topology.ids k) (slice_index_or l.trees.items k regs);
}
