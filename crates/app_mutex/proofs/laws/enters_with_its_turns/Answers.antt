use Rattle.app_mutex.proofs.Entering.{enter_enabled}
use Rattle.app_mutex.proofs.laws.enters_with_its_turns.Goals as goal

pub returns : goal.returns
returns c = enter_enabled
