use Rattle.reset_machine.proofs.Writing.{local_outcome}
use Rattle.reset_machine.proofs.config.Config.act.Goals as goal

pub returns-in-Ok-clause-outcome : goal.returns-in-Ok-clause-outcome
returns-in-Ok-clause-outcome g c =
    let place = rw c.self.view_is at c.in-Ok.ensures.place in
    let exact = rw c.self.view_is at c.in-Ok.ensures.exact in
    local_outcome c.args.self.now c.set_local.new.self c.args.at _ place g.P.Application.app c.args.arguments.case
    c.args.arguments.with _ exact c.set_local.ensures
