-- The first bad line is among those that are left.
use Rattle.std.proofs.Common.{◌≡◌, ◌≤◌, ◌+◌, length}
use Rattle.script_replay.specs.Left.{bad_line_of, first_bad}
use Rattle.script_replay.specs.Lines.{lines_of}
use Rattle.diagnoses.proofs.bad_line.first_bad_line.Given as goal

abbrev pub invariant-loop-text : goal.invariant-loop-text
invariant-loop-text g l =
    (bad_line_of g.P.Application.names l.script ≡ first_bad g.P.Application.names l.number (lines_of l.rest))
    × (l.number + length l.rest ≤ length l.script + 1)

abbrev pub decreases-loop-text : goal.decreases-loop-text
decreases-loop-text g l = length l.rest
