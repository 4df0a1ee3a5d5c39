-- What stands before the index was written.
use Rattle.std.proofs.Common.{take}
use Rattle.std.specs.Io.KnownBytes.{Appends}
use Rattle.space_time_diagram.specs.Headings.{lane_headings}
use Rattle.space_time_diagram.specs.Lanes.{lane_of}
use Rattle.space_time_diagram.proofs.heading.put_lane_headings.Given as goal

abbrev pub invariant-loop-id : goal.invariant-loop-id
invariant-loop-id g l =
    Appends (g.W.Write.contents l.initial.out) (g.W.Write.contents l.out)
    (lane_headings (lane_of l.nodes l.opening) (take l.id-index l.nodes) l.y)
