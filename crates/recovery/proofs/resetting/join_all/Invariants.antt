use Rattle.std.proofs.Common.{◌≡◌, ◌≤◌, ◌+◌, length}
use Rattle.recovery.specs.Mended.{KeepsTree}
use Rattle.recovery.specs.Resetting.{JoinsSoFar}
use Rattle.recovery.proofs.resetting.join_all.Given as goal

abbrev pub invariant-loop-at : goal.invariant-loop-at
invariant-loop-at g l =
    (l.draft.opening ≡ l.initial.draft.opening)
    × KeepsTree l.initial.draft.config l.draft.config
    × JoinsSoFar l.draft.config l.order l.at-index
    × (length l.draft.events ≤ length l.initial.draft.events + l.at-index)
