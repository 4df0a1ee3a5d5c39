use Rattle.std.proofs.Common.{◌++◌, ◌∷◌, [], ◌∙◌, arith, ap, length}
use Rattle.history.specs.declared.entry.Entry.TheVariants.{Step}
use Rattle.history.specs.Segments.{entries_of}
use Rattle.history.proofs.Books.{kept_with_entry, kept_with_room}
use Rattle.history.proofs.book.Book.step.Goals as goal

pub invariant_of-self-in-Ok : goal.invariant_of-self-in-Ok
invariant_of-self-in-Ok g c =
    let book = c.self.inside in
    let es = entries_of book.log.segments in
    let same = c.make_room.ensures.same in
    let kept = ap length same in
    kept_with_entry g.P.Application.app g.P.Application.from_text book.player book.log book.limit c.self.invariant
    c.enter_step.new.self c.enter.new.self (Step c.args.event) (c.enter.ensures.opening ∙ c.make_room.ensures.opening)
    (c.enter.ensures.entries ∙ ap (λ l. l ++ Step c.args.event ∷ []) same) c.enter.ensures.log
    (c.in-Ok.ensures.played book.log.opening.value es c.self.invariant.0 (omega (arith, kept)))
    c.enter.ensures.line (omega (arith, kept))

pub invariant_of-self-in-Err : goal.invariant_of-self-in-Err
invariant_of-self-in-Err g c =
    let book = c.self.inside in
    kept_with_room g.P.Application.app g.P.Application.from_text book.player book.log book.limit c.self.invariant
    c.enter_step.new.self c.make_room.new.self
    c.make_room.ensures.opening c.make_room.ensures.same c.make_room.ensures.log
    (c.in-Err.ensures.played book.log.opening.value (entries_of book.log.segments) c.self.invariant.0)

pub invariant_of-self : goal.invariant_of-self
invariant_of-self g c =
    let book = c.self.inside in
    kept_with_room g.P.Application.app g.P.Application.from_text book.player book.log book.limit c.self.invariant
    book.player c.make_room.new.self
    c.make_room.ensures.opening c.make_room.ensures.same c.make_room.ensures.log c.self.invariant.0

pub make_room-requires-clause-log : goal.make_room-requires-clause-log
make_room-requires-clause-log g c κs within = c.self.invariant.4

pub make_room-requires-clause-now : goal.make_room-requires-clause-now
make_room-requires-clause-now g c κs within = c.self.invariant.0.replay
