use Rattle.std.proofs.Common.{◌++◌, ◌∷◌, [], ◌∙◌, arith, ap, length}
use Rattle.history.specs.declared.entry.Entry.TheVariants.{Step}
use Rattle.history.specs.Segments.{entries_of}
use Rattle.history.proofs.Books.{kept_with_entry, kept_with_room}
use Rattle.history.proofs.book.Book.carry_out.Goals as goal

pub returns-in-Ok-enter_plan-clause-seen : goal.returns-in-Ok-enter_plan-clause-seen
returns-in-Ok-enter_plan-clause-seen g c = rw (← c.self.view_is) (rw c.make_room-2.ensures.same at
    c.in-Ok-enter_plan.ensures.seen)

pub invariant_of-self-in-Ok-enter_plan : goal.invariant_of-self-in-Ok-enter_plan
invariant_of-self-in-Ok-enter_plan g c =
    let book = c.self.inside in
    let es = entries_of book.log.segments in
    let same = c.make_room.ensures.same in
    let kept = ap length same in
    let roomy = c.make_room-2.ensures.played book.log.opening.value es c.self.invariant.0 in
    kept_with_entry g.P.Application.app g.P.Application.from_text book.player book.log book.limit c.self.invariant
    c.enter_plan.new.self c.enter.new.self (Step c.args.plan.event)
    (c.enter.ensures.opening ∙ c.make_room.ensures.opening)
    (c.enter.ensures.entries
    ∙ ap (λ l. l ++ Step c.event-event.result ∷ []) same
    ∙ ap (λ event. es ++ Step event ∷ []) c.event-event.ensures) c.enter.ensures.log
    (c.in-Ok-enter_plan.ensures.played book.log.opening.value es roomy (omega (arith, kept)))
    (rw c.event-event.ensures at c.enter.ensures.line) (omega (arith, kept))

pub invariant_of-self-in-Err-enter_plan : goal.invariant_of-self-in-Err-enter_plan
invariant_of-self-in-Err-enter_plan g c =
    let book = c.self.inside in
    let roomy = c.make_room-2.ensures.played book.log.opening.value (entries_of book.log.segments) c.self.invariant.0 in
    kept_with_room g.P.Application.app g.P.Application.from_text book.player book.log book.limit c.self.invariant
    c.enter_plan.new.self c.make_room.new.self
    c.make_room.ensures.opening c.make_room.ensures.same c.make_room.ensures.log
    (rw c.in-Err-enter_plan.ensures.kept roomy)

pub invariant_of-self : goal.invariant_of-self
invariant_of-self g c =
    let book = c.self.inside in
    kept_with_room g.P.Application.app g.P.Application.from_text book.player book.log book.limit c.self.invariant
    book.player c.make_room.new.self
    c.make_room.ensures.opening c.make_room.ensures.same c.make_room.ensures.log c.self.invariant.0

pub invariant_of-self-in-Err-make_room : goal.invariant_of-self-in-Err-make_room
invariant_of-self-in-Err-make_room g c =
    let book = c.self.inside in
    kept_with_room g.P.Application.app g.P.Application.from_text book.player book.log book.limit c.self.invariant
    c.make_room-2.new.self c.make_room.new.self
    c.make_room.ensures.opening c.make_room.ensures.same c.make_room.ensures.log
    (c.make_room-2.ensures.played book.log.opening.value (entries_of book.log.segments) c.self.invariant.0)

pub make_room-requires-clause-log : goal.make_room-requires-clause-log
make_room-requires-clause-log g c κs within = c.self.invariant.4

pub make_room-requires-clause-now : goal.make_room-requires-clause-now
make_room-requires-clause-now g c κs within = c.self.invariant.0.replay
