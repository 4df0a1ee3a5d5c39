use Rattle.std.proofs.Common.{subst, sym}
use Rattle.node_threads.specs.Locked.{IsContinued}
use Rattle.node_threads.specs.declared.closing.CloseFault.TheVariants.{SeatMissing}
use Rattle.node_threads.proofs.Asking.{run_asks}
use Rattle.node_threads.proofs.Collecting.{all_given}
use Rattle.node_threads.proofs.Promising.{all_fresh}
use Rattle.node_threads.proofs.run.run_round.Goals as goal

pub close_run-requires-clause-own : goal.close_run-requires-clause-own
close_run-requires-clause-own g c = λ κs bounds. all_given g.L.Round.nodes _ _ c.in-Ok.ensures.seats c.in-Ok-in_threads.ensures.own

pub returns-in-Err-clause-stands : goal.returns-in-Err-clause-stands
returns-in-Err-clause-stands g c =
    subst
    (λ book. IsContinued g.P.Application.app g.P.Application.from_text g.L.Sharing.book book)
    (sym c.in-Err.ensures.returned.1) c.requires.stands

pub returns-in-Err-in_threads-clause-stands : goal.returns-in-Err-in_threads-clause-stands
returns-in-Err-in_threads-clause-stands g c = c.into_book-book.ensures

pub returns-in-Err-clause-close : goal.returns-in-Err-clause-close
returns-in-Err-clause-close g c = λ f is. absurd (c.cause_of-cause.ensures.close f is)

pub returns-in-Err-clause-seats : goal.returns-in-Err-clause-seats
returns-in-Err-clause-seats g c = λ i is. absurd (c.cause_of-cause.ensures.close (SeatMissing i) is)

pub in_threads-requires-clause-fresh : goal.in_threads-requires-clause-fresh
in_threads-requires-clause-fresh g c = λ κs bounds. all_fresh g.L.Round.nodes _ c.in-Ok.ensures.seats

pub returns-clause-asked : goal.returns-clause-asked
returns-clause-asked g c =
    run_asks g.P.Application.app g.P.Application.from_text g.L.Sharing.book c.args.task _ (λ o. o.book) (λ o. o.seats.items)
    c.close_run.result c.close_run.ensures.closed c.close_run.ensures.lists c.in-Ok-in_threads.ensures.asked
