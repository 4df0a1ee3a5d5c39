use Rattle.scheduler.proofs.Steps.{fault_drawn, on_ok}
use Rattle.scheduler.proofs.step.fault_step.Goals as goal

pub returns-clause-ok : goal.returns-clause-ok
returns-clause-ok g c =
    on_ok _ _ _ (fault_drawn g.P.Application.app g.P.Application.from_text c.args.book.now c.args.random.now c.config.result.now
    c.draw_fault-fault.result c.disturb.new.book c.draw_fault-fault.new.random c.config.ensures
    c.draw_fault-fault.ensures.fault c.draw_fault-fault.ensures.generator) c.disturb.ensures.ok
