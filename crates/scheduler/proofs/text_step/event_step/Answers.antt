use Rattle.std.proofs.Common.{Some, None, sym, ◌∙◌}
use Rattle.scheduler.specs.Told.{IsAfterEventStep}
use Rattle.scheduler.proofs.Telling.{event_step_kept, on_ok₁}
use Rattle.scheduler.proofs.text_step.event_step.Goals as goal

pub returns-in-Some : goal.returns-in-Some
returns-in-Some g c =
    let app = g.P.Application.app in
    let from_text = g.P.Application.from_text in
    on_ok₁ c.happen.result _ (IsAfterEventStep app from_text c.args.config.now c.args.told.now c.args.random.now
    c.happen.new.config c.happen.new.told c.next_word-for_event.new.self) c.happen.ensures
    (λ done b kept. event_step_kept app from_text b c.args.random.now
    c.args.config.now c.happen.new.config c.args.told.now c.happen.new.told kept c.drawn_by.new.config _ _ _ _
    (Some c.in-Some.event) c.in_ok-event.ensures.kept c.next_word-for_node.ensures c.next_word-for_event.ensures
    (sym c.in-Some.is ∙ c.in_ok-event.ensures.drawn) (done b))

pub returns-in-None : goal.returns-in-None
returns-in-None g c = λ b kept.
    event_step_kept g.P.Application.app g.P.Application.from_text b c.args.random.now
    c.args.config.now c.drawn_by.new.config c.args.told.now c.args.told.now kept c.drawn_by.new.config _ _ _ _
    None c.in_ok-event.ensures.kept c.next_word-for_node.ensures c.next_word-for_event.ensures
    (sym c.in-None.is ∙ c.in_ok-event.ensures.drawn) (λ same. same)
