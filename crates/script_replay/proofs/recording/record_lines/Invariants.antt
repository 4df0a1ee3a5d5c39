-- The entries of the book, and those of the lines that are left, are the entries of all lines; and for each entry two
-- bytes were read.
use Rattle.std.proofs.Common.{◌≡◌, ◌≤◌, ◌+◌, ◌*◌, ◌++◌, ℕ, length}
use Rattle.applications.specs.Meaning.{meaning_of}
use Rattle.script_replay.specs.Lines.{lines_of}
use Rattle.script_replay.specs.Recorded.{entries_of_lines}
use Rattle.script_replay.proofs.recording.record_lines.Given as goal

abbrev pub invariant-loop-line : goal.invariant-loop-line
invariant-loop-line g l =
    let m =
    meaning_of g.P.Application.app g.P.Application.text g.P.Application.from_text g.P.Application.names
    g.P.Invariant.counts in
    (n : ℕ)
    × (entries_of_lines m l.initial.book.config 1 (lines_of l.script)
    ≡ l.book.entries ++ entries_of_lines m l.book.config n (lines_of l.rest))
    × (l.book.opening ≡ l.initial.book.opening) × (l.book.limit ≡ 1000000)
    × (2 * length l.book.entries + length l.rest ≤ length l.script)

abbrev pub decreases-loop-line : goal.decreases-loop-line
decreases-loop-line g l = length l.rest
