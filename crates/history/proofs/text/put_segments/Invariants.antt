-- The lines of the segments before the index were written.
use Rattle.std.proofs.Common.{take, ◌*◌}
use Rattle.std.specs.Io.KnownBytes.{Appends}
use Rattle.history.specs.HistoryText.{entries_text}
use Rattle.history.specs.Segments.{entries_of}
use Rattle.history.proofs.text.put_segments.Given as goal

abbrev pub invariant-loop-index : goal.invariant-loop-index
invariant-loop-index g l =
    Appends (g.W.Write.contents l.initial.out) (g.W.Write.contents l.out)
    (entries_text (take (l.index * 1024) (entries_of l.segments)))
