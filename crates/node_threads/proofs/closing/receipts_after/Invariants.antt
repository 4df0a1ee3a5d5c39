-- What was told so far and what is still to be told make the whole.
use Rattle.node_threads.specs.Seats.{receipts_after}
use Rattle.node_threads.proofs.Telling.{AreTold}
use Rattle.node_threads.proofs.closing.receipts_after.Given as goal

abbrev pub invariant-loop-index : goal.invariant-loop-index
invariant-loop-index g l =
    AreTold l.mark (receipts_after g.P.Application.app g.P.Application.from_text l.book l.mark) l.told.items l.reports
    l.next l.index l.book.entries
