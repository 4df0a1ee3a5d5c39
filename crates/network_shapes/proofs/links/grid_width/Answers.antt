use Rattle.network_shapes.proofs.Widths.{grid_width-root}
use Rattle.network_shapes.proofs.links.grid_width.Goals as goal

pub returns-clause-width : goal.returns-clause-width
returns-clause-width c =
    grid_width-root c.args.count c.isqrt.result c.requires.some c.isqrt.ensures.square_le c.isqrt.ensures.next_square_gt
