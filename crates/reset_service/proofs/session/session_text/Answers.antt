use Rattle.reset_service.specs.Held.HoldsText.{good_topology}
use Rattle.reset_service.proofs.session.session_text.Goals as goal

pub returns-in-Ok-clause-holds : goal.returns-in-Ok-clause-holds
returns-in-Ok-clause-holds g c =
    good_topology c.in-Ok.network.topology c.in-Ok.network.app c.in-Ok.network.modulus c.in-Ok.ensures.ok
    c.session_app.ensures
