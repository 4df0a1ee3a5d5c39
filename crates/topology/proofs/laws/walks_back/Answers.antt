use Rattle.topology.proofs.Walks.{walk_back, linked_back}
use Rattle.topology.proofs.laws.walks_back.Goals as goal

pub returns : goal.returns
returns c = λ g a b cs are w. walk_back g (linked_back g are) a b cs w
