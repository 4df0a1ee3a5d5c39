use Rattle.std.proofs.Common.{refl}
use Rattle.applications.specs.Meaning.{meaning_of}
use Rattle.fault_inject.specs.Drawn.{seeded}
use Rattle.scheduler.specs.Driven.{driven}
use Rattle.scheduler.specs.Told.{new_book}
use Rattle.scheduler.proofs.Steps.{steps_keep}
use Rattle.reset_service.proofs.Driving.{told_drove}
use Rattle.reset_service.proofs.driven.drive_opened.Goals as goal

pub returns-in-Ok-clause-ok : goal.returns-in-Ok-clause-ok
returns-in-Ok-clause-ok g c =
    let m =
    meaning_of g.P.Application.app g.P.Application.text g.P.Application.from_text g.P.Application.names
    g.P.Invariant.counts in
    let run = c.args.run in
    let book = new_book c.args.opening in
    told_drove run.steps run.seed run.faults m c.args.opening
    (driven m.app m.from_text run.steps run.seed run.faults book) c.in-Ok.history refl
    (steps_keep m.app m.from_text run.faults run.steps book (seeded run.seed)).opening c.in-Ok.ensures
    (c.books_read_back.ensures _ c.in-Ok.ensures.book)
