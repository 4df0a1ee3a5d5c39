use Rattle.std.proofs.Common.{rules}
use Rattle.space_time_diagram.specs.Bands.{opening_band}
use Rattle.reset_model.proofs.Collected.{mapped_more}
use Rattle.space_time_diagram.proofs.band.opening_bands.Goals as goal

pub loop-id-preserved : goal.loop-id-preserved
loop-id-preserved g c =
    mapped_more c.args.nodes.now c.loop-id.id-index _ c.loop-id-test.true (search rules)
    (opening_band c.args.nodes.now c.args.opening.now c.args.count) _ _ c.loop-id.invariant
    (rw (c.band_at.ensures, c.lane_of-lane.ensures.lane) at c.in_ok-push.ensures.items)
