use Rattle.std.proofs.Common.{ap, ◌∙◌}
use Rattle.scheduler.proofs.Steps.{if_drawn_by_ready}
use Rattle.scheduler.proofs.step.drawn_by.Goals as goal

pub returns-clause-drawn : goal.returns-clause-drawn
returns-clause-drawn g c =
    if_drawn_by_ready g.P.Application.app c.config.result.now c.deref.result.now c.args.for_node c.args.for_event
    c.args.book.now.config c.drawn_event.result (c.config.ensures ∙ ap (λ b. b.config) c.in_ok-ready.ensures.kept)
    (c.deref.ensures.value ∙ c.in_ok-ready.ensures.ok) c.drawn_event.ensures
