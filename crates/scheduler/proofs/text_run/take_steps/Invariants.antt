-- The configuration, the history and the generator are those after as many steps as were taken.
use Rattle.scheduler.specs.Told.{IsAfterSteps}
use Rattle.scheduler.proofs.text_run.take_steps.Given as goal

abbrev pub invariant-loop-step : goal.invariant-loop-step
invariant-loop-step g l =
    IsAfterSteps g.P.Application.app g.P.Application.from_text l.step l.faults l.initial.config l.initial.told
    l.initial.random l.config l.told l.random
