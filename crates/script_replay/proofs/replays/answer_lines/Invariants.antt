-- What was written, and the answers to the lines that are left, are the answers to all lines.
use Rattle.std.proofs.Common.{◌≡◌, ◌≤◌, ◌+◌, ℕ, List, length}
use Rattle.std.specs.Io.KnownBytes.{Appends}
use Rattle.applications.specs.Meaning.{meaning_of}
use Rattle.script_replay.specs.Lines.{lines_of}
use Rattle.script_replay.specs.Output.{answers, told_after}
use Rattle.script_replay.proofs.replays.answer_lines.Given as goal

abbrev pub invariant-loop-line : goal.invariant-loop-line
invariant-loop-line g l =
    let m =
    meaning_of g.P.Application.app g.P.Application.text g.P.Application.from_text g.P.Application.names
    g.P.Invariant.counts in
    (done : List ℕ)
    × (answers m l.initial.config 1 (lines_of l.script)
    ≡ told_after done (answers m l.config l.number (lines_of l.rest)))
    × Appends (g.W.Write.contents l.initial.out) (g.W.Write.contents l.out) done
    × (l.number + length l.rest ≤ length l.script + 1)

abbrev pub decreases-loop-line : goal.decreases-loop-line
decreases-loop-line g l = length l.rest
