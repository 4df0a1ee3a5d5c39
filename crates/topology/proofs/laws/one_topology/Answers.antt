use Rattle.topology.proofs.OneResult.{one_graph}
use Rattle.topology.proofs.laws.one_topology.Goals as goal

pub returns : goal.returns
returns c = λ nodes links g h a b. one_graph nodes links g h a.exact b.exact
