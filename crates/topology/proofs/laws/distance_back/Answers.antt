use Rattle.topology.proofs.Walks.{distance_turned}
use Rattle.topology.proofs.laws.distance_back.Goals as goal

pub returns : goal.returns
returns c = distance_turned
