-- The lines that are left lead where all lines lead, and the first bad line is among them.
use Rattle.std.proofs.Common.{◌≡◌, ◌≤◌, ◌+◌, length}
use Rattle.applications.specs.Meaning.{meaning_of}
use Rattle.script_replay.specs.Left.{bad_line_of, first_bad}
use Rattle.script_replay.specs.Lines.{lines_of}
use Rattle.script_replay.specs.Output.{answers}
use Rattle.script_replay.proofs.Leaving.{LeadsOn}
use Rattle.script_replay.proofs.left.leave_script.Given as goal

abbrev pub invariant-loop-line : goal.invariant-loop-line
invariant-loop-line g l =
    let m =
    meaning_of g.P.Application.app g.P.Application.text g.P.Application.from_text g.P.Application.names
    g.P.Invariant.counts in
    LeadsOn m (answers m l.initial.config 1 (lines_of l.script)) l.config l.number (lines_of l.rest)
    × (bad_line_of m.names l.script ≡ first_bad m.names l.number (lines_of l.rest))
    × (l.number + length l.rest ≤ length l.script + 1)

abbrev pub decreases-loop-line : goal.decreases-loop-line
decreases-loop-line g l = length l.rest
