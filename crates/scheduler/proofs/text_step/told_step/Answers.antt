use Rattle.std.proofs.Common.{true, false}
use Rattle.std.proofs.lemmas.Bool.{le-ltb, lt-ltb}
use Rattle.scheduler.specs.Told.{IsAfterStep}
use Rattle.scheduler.proofs.Telling.{fault_step_kept, on_ok₁, step_kept}
use Rattle.scheduler.proofs.text_step.told_step.Goals as goal

pub returns-then-next_word-faults : goal.returns-then-next_word-faults
returns-then-next_word-faults g c =
    let app = g.P.Application.app in
    let from_text = g.P.Application.from_text in
    let after = c.draw_fault-fault.new.random in
    on_ok₁ c.disturb.result _ (IsAfterStep app from_text c.args.faults c.args.config.now c.args.told.now
    c.args.random.now c.disturb.new.config c.disturb.new.told after) c.disturb.ensures
    (λ done b kept. step_kept app from_text c.args.faults b c.args.random.now c.disturb.new.config
    c.disturb.new.told after c.next_word.result c.next_word.new.self true c.next_word.ensures
    (lt-ltb _ _ c.if-next_word-faults.true) (fault_step_kept app from_text b c.next_word.new.self c.args.config.now
    c.disturb.new.config c.args.told.now c.disturb.new.told kept c.draw_fault-fault.result after
    c.draw_fault-fault.ensures.fault c.draw_fault-fault.ensures.generator (done b kept)))

pub returns-else-next_word-faults : goal.returns-else-next_word-faults
returns-else-next_word-faults g c =
    let app = g.P.Application.app in
    let from_text = g.P.Application.from_text in
    on_ok₁ c.event_step.result _ (IsAfterStep app from_text c.args.faults c.args.config.now c.args.told.now
    c.args.random.now c.event_step.new.config c.event_step.new.told c.event_step.new.random) c.event_step.ensures
    (λ done b kept. step_kept app from_text c.args.faults b c.args.random.now c.event_step.new.config
    c.event_step.new.told c.event_step.new.random c.next_word.result c.next_word.new.self false c.next_word.ensures
    (le-ltb _ _ c.if-next_word-faults.false) (done b kept))
