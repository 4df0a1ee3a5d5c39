use Rattle.std.proofs.Common.{◌≡◌, ◌≤◌, ◌+◌, length}
use Rattle.script_replay.specs.Lines.{lines_of}
use Rattle.diagnoses.specs.Places.{line_at}
use Rattle.diagnoses.proofs.place.line_at.Given as goal

-- the lines that were passed and those that are left are all
abbrev pub invariant-loop-after : goal.invariant-loop-after
invariant-loop-after l =
    (l.number + length (lines_of l.rest) ≡ line_at l.fn.text l.fn.at + 1)
    × (l.number + length l.rest ≤ length l.fn.text + 1)

abbrev pub decreases-loop-after : goal.decreases-loop-after
decreases-loop-after l = length l.rest
