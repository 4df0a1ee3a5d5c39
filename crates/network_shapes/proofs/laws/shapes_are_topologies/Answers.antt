use Rattle.network_shapes.proofs.Networks.{shape_topology}
use Rattle.network_shapes.proofs.laws.shapes_are_topologies.Goals as goal

pub returns : goal.returns
returns c = shape_topology
