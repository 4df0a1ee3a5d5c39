use Rattle.std.proofs.Common.{◌≡◌, ℕ, ◌<◌, slice_index_or, IfSome, true}
use Rattle.reset_model.specs.Configuration.{tree_of}
use Rattle.recovery.specs.FalseNodes.{AtMost, IsFalseNode, far_of, is_false, top_of}
use Rattle.recovery.proofs.forgetting.lowest_false.Given as goal

abbrev pub invariant-loop-id : goal.invariant-loop-id
invariant-loop-id g l =
    IfSome l.lowest (λ i. IsFalseNode l.config l.target i)
    × ((k d : ℕ) → k < l.id-index
    → is_false (top_of l.target) (far_of l.target) (tree_of l.config) (slice_index_or l.nodes k d) ≡ true
    → AtMost l.config l.lowest (slice_index_or l.nodes k d))
