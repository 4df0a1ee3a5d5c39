-- The marks before the index were written.
use Rattle.std.proofs.Common.{◌≡◌, take}
use Rattle.std.specs.Io.KnownBytes.{Appends}
use Rattle.space_time_diagram.specs.Lanes.{own_lane}
use Rattle.space_time_diagram.specs.Marks.{marks_from}
use Rattle.space_time_diagram.proofs.mark.put_marks.Given as goal

abbrev pub invariant-loop-entry : goal.invariant-loop-entry
invariant-loop-entry g l =
    Appends (g.W.Write.contents l.initial.out) (g.W.Write.contents l.out)
    (marks_from (own_lane l.nodes l.opening) l.before 1 (take l.entry-index l.entries)) × (l.place ≡ l.entry-index)
