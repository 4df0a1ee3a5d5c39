use Rattle.std.proofs.Common.{Some, None, refl, sym, ◌∙◌}
use Rattle.scheduler.proofs.Steps.{event_drawn, on_ok}
use Rattle.scheduler.proofs.step.event_step.Goals as goal

pub returns-in-Some-clause-ok : goal.returns-in-Some-clause-ok
returns-in-Some-clause-ok g c =
    on_ok _ _ _ (event_drawn g.P.Application.app c.args.book.now c.args.random.now
    _ _ _ _ c.drawn_by.new.book c.happen.new.book (Some c.in-Some.event)
    c.next_word-for_node.ensures c.next_word-for_event.ensures c.in_ok-event.ensures.kept
    (sym c.in-Some.is ∙ c.in_ok-event.ensures.drawn)) c.happen.ensures.ok

pub returns-in-None-clause-ok : goal.returns-in-None-clause-ok
returns-in-None-clause-ok g c =
    event_drawn g.P.Application.app c.args.book.now c.args.random.now
    _ _ _ _ c.drawn_by.new.book c.drawn_by.new.book None
    c.next_word-for_node.ensures c.next_word-for_event.ensures c.in_ok-event.ensures.kept
    (sym c.in-None.is ∙ c.in_ok-event.ensures.drawn) refl
