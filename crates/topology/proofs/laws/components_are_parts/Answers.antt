use Rattle.topology.proofs.Components.{component_is}
use Rattle.topology.proofs.laws.components_are_parts.Goals as goal

pub returns : goal.returns
returns c = component_is
