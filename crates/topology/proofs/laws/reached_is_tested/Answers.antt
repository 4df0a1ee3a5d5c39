use Rattle.topology.proofs.Components.{reaches_tests}
use Rattle.topology.proofs.laws.reached_is_tested.Goals as goal

pub returns : goal.returns
returns c = reaches_tests
