use Rattle.std.proofs.Common.{◌≡◌, ◌≤◌, ◌+◌, ◌*◌, length}
use Rattle.recovery.specs.Resetting.{RestartsSoFar}
use Rattle.recovery.proofs.resetting.restart_all.Given as goal

abbrev pub invariant-loop-at : goal.invariant-loop-at
invariant-loop-at g l =
    (l.draft.opening ≡ l.initial.draft.opening)
    × RestartsSoFar g.P.Application.app l.initial.draft.config l.draft.config l.draft.events l.order l.at-index
    × (length l.draft.events ≤ length l.initial.draft.events + 2 * l.at-index)
