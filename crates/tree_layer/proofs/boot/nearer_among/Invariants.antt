use Rattle.std.proofs.Common.{◌≢◌, ℕ, ◌+◌, ◌<◌, slice_index}
use Rattle.tree_layer.proofs.boot.nearer_among.Given as goal

abbrev pub invariant-loop-index : goal.invariant-loop-index
invariant-loop-index l = (m : ℕ) → m < l.index-index → slice_index l.distances (slice_index l.near m) + 1 ≢ l.dist
