use Rattle.std.proofs.Common.{refl}
use Rattle.reset_service.specs.Held.HoldsOn.{booted}
use Rattle.reset_service.proofs.session.session_booted.Goals as goal

pub returns-in-Ok : goal.returns-in-Ok
returns-in-Ok g c = booted c.in-Ok.opening refl c.in-Ok.ensures.ok c.session_from.ensures
