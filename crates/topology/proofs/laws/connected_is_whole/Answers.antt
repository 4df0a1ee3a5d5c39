use Rattle.topology.proofs.Components.{whole_component}
use Rattle.topology.proofs.laws.connected_is_whole.Goals as goal

pub returns : goal.returns
returns c = whole_component
