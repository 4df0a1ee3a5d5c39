use Rattle.std.proofs.Common.{true, false}
use Rattle.std.proofs.lemmas.Bool.{le-ltb, lt-ltb}
use Rattle.scheduler.proofs.Steps.{step_drawn}
use Rattle.scheduler.proofs.step.drawn_step.Goals as goal

pub returns-then-next_word-faults-clause-ok : goal.returns-then-next_word-faults-clause-ok
returns-then-next_word-faults-clause-ok g c =
    step_drawn g.P.Application.app g.P.Application.from_text c.args.faults c.args.book.now c.args.random.now
    c.fault_step.result (c.fault_step.new.book, c.fault_step.new.random) c.next_word.result c.next_word.new.self true
    c.next_word.ensures (lt-ltb _ _ c.if-next_word-faults.true) c.fault_step.ensures.ok

pub returns-else-next_word-faults-clause-ok : goal.returns-else-next_word-faults-clause-ok
returns-else-next_word-faults-clause-ok g c =
    step_drawn g.P.Application.app g.P.Application.from_text c.args.faults c.args.book.now c.args.random.now
    c.event_step.result (c.event_step.new.book, c.event_step.new.random) c.next_word.result c.next_word.new.self false
    c.next_word.ensures (le-ltb _ _ c.if-next_word-faults.false) c.event_step.ensures.ok
