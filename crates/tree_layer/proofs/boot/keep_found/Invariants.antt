use Rattle.std.proofs.Common.{◌≡◌, ℕ, ◌<◌, ◌≤◌, length, slice_index}
use Rattle.tree_layer.proofs.boot.keep_found.Given as goal

abbrev pub invariant-loop-index : goal.invariant-loop-index
invariant-loop-index l = record {
  count : length l.distances ≡ length l.initial.distances;
  kept : (k : ℕ) → k < l.index → slice_index l.found k < length l.found
      → slice_index l.distances k ≡ slice_index l.found k;
  others : (k : ℕ) → k < l.index → length l.found ≤ slice_index l.found k
      → slice_index l.distances k ≡ slice_index l.initial.distances k;
  later : (k : ℕ) → l.index ≤ k → slice_index l.distances k ≡ slice_index l.initial.distances k;
}
