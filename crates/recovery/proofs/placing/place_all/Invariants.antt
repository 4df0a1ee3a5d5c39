use Rattle.std.proofs.Common.{◌≡◌, ◌≤◌, ◌+◌, ◌*◌, length}
use Rattle.recovery.specs.Outward.{ArePlacedFirst}
use Rattle.recovery.proofs.placing.place_all.Given as goal

abbrev pub invariant-loop-at : goal.invariant-loop-at
invariant-loop-at g l =
    (l.draft.opening ≡ l.initial.draft.opening)
    × ArePlacedFirst l.initial.draft.config l.target l.draft.config l.order l.at-index
    × (length l.draft.events ≤ length l.initial.draft.events + 2 * l.at-index)
