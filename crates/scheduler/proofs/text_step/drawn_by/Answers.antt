use Rattle.std.proofs.Common.{◌∙◌}
use Rattle.scheduler.proofs.Steps.{if_drawn_by_ready}
use Rattle.scheduler.proofs.text_step.drawn_by.Goals as goal

pub returns-clause-drawn : goal.returns-clause-drawn
returns-clause-drawn g c =
    if_drawn_by_ready g.P.Application.app c.ready.new.self c.deref.result.now c.args.for_node c.args.for_event
    c.args.config.now c.drawn_event.result c.in_ok-ready.ensures.kept
    (c.deref.ensures.value ∙ c.in_ok-ready.ensures.ok) c.drawn_event.ensures
