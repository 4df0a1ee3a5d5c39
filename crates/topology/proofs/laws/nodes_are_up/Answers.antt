use Rattle.topology.proofs.OneResult.{up_are_nodes}
use Rattle.topology.proofs.laws.nodes_are_up.Goals as goal

pub returns : goal.returns
returns c = up_are_nodes
