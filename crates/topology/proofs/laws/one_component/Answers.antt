use Rattle.topology.proofs.Components.{same_component}
use Rattle.topology.proofs.laws.one_component.Goals as goal

pub returns : goal.returns
returns c = same_component
