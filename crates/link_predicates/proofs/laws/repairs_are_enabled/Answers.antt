use Rattle.link_predicates.proofs.Repairs.{all_repaired}
use Rattle.link_predicates.proofs.laws.repairs_are_enabled.Goals as goal

pub returns : goal.returns
returns g c = λ config graph. all_repaired g.P.Application.app config graph
