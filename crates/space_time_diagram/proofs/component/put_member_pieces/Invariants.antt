-- What stands before the index was written.
use Rattle.std.proofs.Common.{take}
use Rattle.std.specs.List.{flat_map}
use Rattle.std.specs.Io.KnownBytes.{Appends}
use Rattle.space_time_diagram.specs.Lanes.{lane_of}
use Rattle.space_time_diagram.specs.Members.{member_piece}
use Rattle.space_time_diagram.proofs.component.put_member_pieces.Given as goal

abbrev pub invariant-loop-other : goal.invariant-loop-other
invariant-loop-other g l =
    Appends (g.W.Write.contents l.initial.out) (g.W.Write.contents l.out)
    (flat_map (member_piece (lane_of l.nodes l.opening) l.topology l.node) (take l.other-index l.nodes))
