use Rattle.std.proofs.Common.{arith}
use Rattle.action_tables.proofs.Prefixes.{OnErr-always}
use Rattle.action_tables.proofs.Pieces.{AppendsPrefix-piece}
use Rattle.space_time_diagram.specs.Headings.{lane_heading}
use Rattle.space_time_diagram.specs.Lanes.{lane_of}
use Rattle.space_time_diagram.proofs.heading.put_lane_headings.Goals as goal

pub returns-in_err-put_lane_heading-clause-err : goal.returns-in_err-put_lane_heading-clause-err
returns-in_err-put_lane_heading-clause-err g c =
    OnErr-always _ _
    (AppendsPrefix-piece _ _ _ (lane_heading (lane_of c.args.nodes.now c.args.opening.now) c.args.y)
    c.args.nodes.now c.loop-id.id-index _ (omega arith) c.loop-id.invariant c.in_err-put_lane_heading.ensures.err)
