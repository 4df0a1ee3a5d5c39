-- The text was read up to what is left of the bytes.
use Rattle.std.proofs.Common.{◌≡◌, ℕ, List, ◌++◌, length}
use Rattle.history.specs.declared.entry.Entry.{Entry}
use Rattle.history.specs.Reading.{HasRead}
use Rattle.history.proofs.lines.Reading.feed.Given as goal

abbrev pub invariant-loop-line : goal.invariant-loop-line
invariant-loop-line l =
    (done : List ℕ) × (l.bytes ≡ done ++ l.rest)
    × ((before : List Entry) (text : List ℕ) → HasRead l.initial.self before text
    → HasRead l.self before (text ++ done))

abbrev pub decreases-loop-line : goal.decreases-loop-line
decreases-loop-line l = length l.rest
