use Rattle.std.proofs.Common.{arith}
use Rattle.network_shapes.proofs.Lesser.{first_row}
use Rattle.network_shapes.proofs.links.grid_neighbours.Goals as goal

pub returns-then-node-width : goal.returns-then-node-width
returns-then-node-width c = first_row c.args.node c.args.width c.requires.from_two (omega arith)
