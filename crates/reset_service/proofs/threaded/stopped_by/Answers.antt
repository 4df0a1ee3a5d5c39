use Rattle.std.proofs.Common.{refl}
use Rattle.reset_service.specs.Selected.IsToldOf.{strange}
use Rattle.reset_service.proofs.threaded.stopped_by.Goals as goal

pub returns-in-Some-clause-told : goal.returns-in-Some-clause-told
returns-in-Some-clause-told c = strange c.in-Some.field-0 c.in-Some.is c.in-StrangeNode.is refl
