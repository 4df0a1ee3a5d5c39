use Rattle.scheduler.proofs.Telling.{first_kept, steps_kept}
use Rattle.scheduler.proofs.text_run.take_steps.Goals as goal

pub loop-step-init : goal.loop-step-init
loop-step-init g c = λ b kept.
    first_kept g.P.Application.app g.P.Application.from_text c.args.faults b c.args.random.now c.args.config.now
    c.args.told.now kept

pub loop-step-preserved : goal.loop-step-preserved
loop-step-preserved g c = λ b kept.
    steps_kept g.P.Application.app g.P.Application.from_text c.args.faults b c.args.random.now c.loop-step.config c.loop-step.told
    c.loop-step.step c.loop-step.random c.told_step.new.random c.told_step.new.config c.told_step.new.told
    (c.loop-step.invariant b kept) c.in_ok-told_step.ensures
