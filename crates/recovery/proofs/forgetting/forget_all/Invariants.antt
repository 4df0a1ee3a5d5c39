use Rattle.std.proofs.Common.{◌≡◌, ◌≤◌, ◌+◌, length, false, cond}
use Rattle.recovery.specs.FalseNodes.{AllTrue, IsTarget, potential_of}
use Rattle.recovery.proofs.forgetting.forget_all.Given as goal

abbrev pub invariant-loop-more : goal.invariant-loop-more
invariant-loop-more g l =
    (l.draft.opening ≡ l.initial.draft.opening) × IsTarget l.draft.config l.target
    × (l.draft.config.graph ≡ l.initial.draft.config.graph)
    × (length l.draft.events + potential_of l.draft.config l.target
    ≤ length l.initial.draft.events + potential_of l.initial.draft.config l.target)
    × (l.more ≡ false → AllTrue l.draft.config l.target)

abbrev pub decreases-loop-more : goal.decreases-loop-more
decreases-loop-more g l = potential_of l.draft.config l.target + cond l.more 1 0
