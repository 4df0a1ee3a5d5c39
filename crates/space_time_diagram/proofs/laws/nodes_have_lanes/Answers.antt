use Rattle.space_time_diagram.proofs.LaneOrder.{lanes_apart, lanes_nearer, lanes_within}
use Rattle.space_time_diagram.proofs.laws.nodes_have_lanes.Goals as goal

pub returns-clause-apart : goal.returns-clause-apart
returns-clause-apart g c d nodes = lanes_apart nodes d

pub returns-clause-within : goal.returns-clause-within
returns-clause-within g c d nodes = lanes_within nodes d

pub returns-clause-nearer : goal.returns-clause-nearer
returns-clause-nearer g c d nodes = lanes_nearer nodes d
