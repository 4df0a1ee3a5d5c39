use Rattle.std.proofs.Common.{◌∙◌, sym}
use Rattle.scheduler.specs.Told.{IsAfterFault}
use Rattle.scheduler.proofs.Telling.{fault_full, fault_kept, on_ok₃}
use Rattle.scheduler.proofs.text_step.disturb.Goals as goal

pub returns-then-is_full : goal.returns-then-is_full
returns-then-is_full g c = λ b kept.
    fault_full g.P.Application.app g.P.Application.from_text b c.args.config.now c.args.told.now kept c.args.fault.now
    (sym c.is_full.ensures ∙ c.if-is_full.true)

pub returns-in-Ok : goal.returns-in-Ok
returns-in-Ok g c =
    let app = g.P.Application.app in
    let from_text = g.P.Application.from_text in
    let c' = c.inject.new.config in
    on_ok₃ c.enter_fault.result _ _ _ (IsAfterFault app from_text c.args.fault.now c.args.config.now c.args.told.now c'
    c.enter_fault.new.self) c.enter_fault.ensures.text c.enter_fault.ensures.entries c.enter_fault.ensures.reports
    (λ text entries reports b kept. fault_kept app from_text b c.args.config.now c' c.args.told.now
    c.enter_fault.new.self kept c.args.fault.now (sym c.is_full.ensures ∙ c.if-is_full.false) c.in-Ok.ensures.outcome
    (c.lemma_fault_has_line.ensures c.args.config.now c' c.in-Ok.ensures.outcome)
    c.lemma_is_graph.ensures.shaped.modulus text entries reports)
