use Rattle.std.proofs.Common.{append-nil, arith, length, ap, sym, ◌∙◌, ◌+◌, ◌++◌}
use Rattle.std.proofs.lemmas.List.{drop_all}
use Rattle.space_time_diagram.specs.Bands.{bands_from}
use Rattle.space_time_diagram.specs.Lanes.{own_lane}
use Rattle.history.proofs.Replays.{next_allowed}
use Rattle.space_time_diagram.proofs.PlayedBands.{bands_more, bands_none, rest_allowed}
use Rattle.space_time_diagram.proofs.band.add_bands.Goals as goal

pub play-requires-after_bounds : goal.play-requires-after_bounds
play-requires-after_bounds g c κs within =
    let loop = c.loop-entry in
    next_allowed g.P.Application.app g.P.Application.from_text loop.config c.args.entries.now loop.entry-index _
    c.loop-entry-test.true c.entry-item.is loop.invariant.1

pub loop-entry-preserved : goal.loop-entry-preserved
loop-entry-preserved g c =
    let app = g.P.Application.app in
    let from_text = g.P.Application.from_text in
    let loop = c.loop-entry in
    let es = c.args.entries.now in
    let short = c.loop-entry-test.true in
    let pushed = rw (c.own_lane-lane.ensures.lane, c.entry_node-node.ensures) at c.in_ok-add_band.ensures in (
      rw pushed
          (bands_more app from_text (own_lane c.args.nodes.now c.args.opening.now) (length es) (loop.place + 1)
          loop.config c.play.new.config es loop.entry-index _ loop.bands.items short c.entry-item.is c.in_ok-play.ensures ∙ loop.invariant.0),
      rest_allowed app from_text loop.config c.play.new.config es loop.entry-index _ short c.entry-item.is
          c.in_ok-play.ensures loop.invariant.1,
      omega (arith, loop.invariant.2),
    )

pub returns : goal.returns
returns g c =
    let app = g.P.Application.app in
    let from_text = g.P.Application.from_text in
    let loop = c.loop-entry in
    let es = c.args.entries.now in
    let lane = own_lane c.args.nodes.now c.args.opening.now in
    let none =
    ap (bands_from app from_text lane (length es) loop.config (loop.place + 1))
    (drop_all loop.entry-index es c.loop-entry-test.false)
    ∙ bands_none app from_text lane (length es) (loop.place + 1) loop.config in
    sym (append-nil loop.bands.items) ∙ ap (λ bs. loop.bands.items ++ bs) (sym none) ∙ loop.invariant.0
