-- The book and the generator are those after as many steps as were taken.
use Rattle.std.proofs.Common.{◌≡◌}
use Rattle.fault_inject.specs.Drawn.{seeded}
use Rattle.scheduler.specs.Driven.{drawn_steps}
use Rattle.scheduler.proofs.run.drive.Given as goal

abbrev pub invariant-loop : goal.invariant-loop
invariant-loop g l =
    (l.book, l.random)
    ≡ drawn_steps g.P.Application.app g.P.Application.from_text l.faults l.counter l.initial.book (seeded l.seed)
