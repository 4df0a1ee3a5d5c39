use Rattle.std.proofs.Common.{◌≡◌, ◌≤◌, ◌+◌, length}
use Rattle.recovery.specs.Resetting.{EndsBy, FinishesSoFar, HasFinished}
use Rattle.recovery.proofs.resetting.finish_all.Given as goal

abbrev pub invariant-loop-at : goal.invariant-loop-at
invariant-loop-at g l =
    (l.draft.opening ≡ l.initial.draft.opening)
    × HasFinished g.P.Application.app l.initial.draft.config l.draft.config
    × FinishesSoFar l.draft.config l.order l.at-index
    × EndsBy l.initial.draft.config l.draft.config l.initial.draft.events l.draft.events
    × (length l.draft.events ≤ length l.initial.draft.events + l.at-index)
