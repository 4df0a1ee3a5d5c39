use Rattle.std.proofs.Common.{◌∙◌, sym}
use Rattle.scheduler.specs.Told.{IsAfterEvent}
use Rattle.scheduler.proofs.Telling.{event_full, event_kept, on_ok₃}
use Rattle.scheduler.proofs.text_step.happen.Goals as goal

pub returns-then-is_full : goal.returns-then-is_full
returns-then-is_full g c = λ b kept.
    event_full g.P.Application.app g.P.Application.from_text b c.args.config.now c.args.told.now kept c.args.event
    (sym c.is_full.ensures ∙ c.if-is_full.true)

pub returns-in-Ok : goal.returns-in-Ok
returns-in-Ok g c =
    let app = g.P.Application.app in
    let from_text = g.P.Application.from_text in
    let c' = c.step.new.self in
    on_ok₃ c.enter_event.result _ _ _ (IsAfterEvent app from_text c.args.event c.args.config.now c.args.told.now c'
    c.enter_event.new.self) c.enter_event.ensures.text c.enter_event.ensures.entries c.enter_event.ensures.reports
    (λ text entries reports b kept. event_kept app from_text b c.args.config.now c' c.args.told.now
    c.enter_event.new.self kept c.args.event c.in-Ok.reply (sym c.is_full.ensures ∙ c.if-is_full.false)
    c.in-Ok.ensures.outcome c.lemma_step_has_line.ensures c.lemma_is_graph.ensures.shaped.modulus text entries reports)
