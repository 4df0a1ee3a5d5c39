use Rattle.std.proofs.Common.{arith}
use Rattle.action_tables.proofs.Prefixes.{OnErr-always}
use Rattle.action_tables.proofs.Pieces.{AppendsPrefix-piece}
use Rattle.space_time_diagram.specs.Lanes.{lane_of}
use Rattle.space_time_diagram.specs.Members.{member_piece}
use Rattle.space_time_diagram.proofs.component.put_member_pieces.Goals as goal

pub returns-in_err-put_member_piece-clause-err : goal.returns-in_err-put_member_piece-clause-err
returns-in_err-put_member_piece-clause-err g c =
    OnErr-always _ _
    (AppendsPrefix-piece _ _ _
    (member_piece (lane_of c.args.nodes.now c.args.opening.now) c.args.topology.now c.args.node)
    c.args.nodes.now c.loop-other.other-index _ (omega arith)
    c.loop-other.invariant c.in_err-put_member_piece.ensures.err)
