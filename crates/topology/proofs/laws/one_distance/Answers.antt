use Rattle.topology.proofs.Walks.{same_distance}
use Rattle.topology.proofs.laws.one_distance.Goals as goal

pub returns : goal.returns
returns c = same_distance
