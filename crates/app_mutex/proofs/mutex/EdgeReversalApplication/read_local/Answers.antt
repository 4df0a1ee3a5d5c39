use Rattle.app_interface.proofs.OneText.{none_is}
use Rattle.app_mutex.specs.LawsOfText.{one_mutex_text}
use Rattle.app_mutex.proofs.mutex.EdgeReversalApplication.read_local.Goals as goal

pub returns-clause-bad : goal.returns-clause-bad
returns-clause-bad c =
    λ refused. none_is one_mutex_text c.args.bytes.now (λ local are. c.read_local.ensures.bad refused local)
