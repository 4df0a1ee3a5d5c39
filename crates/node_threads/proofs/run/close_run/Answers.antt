use Rattle.std.proofs.Common.{◌∙◌, List, ap, map, sym}
use Rattle.node_threads.specs.Closed.{NodeList}
use Rattle.node_threads.specs.declared.closing.CloseFault.TheVariants.{SeatMissing}
use Rattle.node_threads.proofs.Collecting.{lists_nodes}
use Rattle.node_threads.proofs.Refusing.{has_all_seats, has_close_fault, told_close}
use Rattle.node_threads.proofs.run.close_run.Goals as goal

pub returns-in-Err-clause-stands : goal.returns-in-Err-clause-stands
returns-in-Err-clause-stands g c = c.into_book-book.ensures.continued

pub returns-in-Ok-clause-order : goal.returns-in-Ok-clause-order
returns-in-Ok-clause-order g c =
    ap (λ (ls : List NodeList). map (λ l. l.0) ls) c.in-Ok.ensures.lists
    ∙ (lists_nodes c.args.seats.items ∙ c.requires.own)

pub returns-in-Err-clause-close : goal.returns-in-Err-clause-close
returns-in-Err-clause-close g c = λ f is.
    has_close_fault g.P.Application.app g.P.Application.from_text g.L.Sharing.book
    c.in-Err.unlocked.locked.book _ _ _ f (c.requires.own ∙ sym c.requires.nodes) c.into_book-book.ensures.same
    c.in-Err.ensures.err
    (told_close _ _ c.cause_of_closing-cause.ensures.memory c.cause_of_closing-cause.ensures.close f is)

pub returns-in-Err-clause-seats : goal.returns-in-Err-clause-seats
returns-in-Err-clause-seats g c = λ i is.
    has_all_seats g.P.Application.app g.P.Application.from_text g.L.Sharing.book _ i
    (returns-in-Err-clause-close g c (SeatMissing i) is)
