-- No more receipts than turns were added, each of a turn, and none was taken away.
use Rattle.std.proofs.Common.{◌≡◌, ◌+◌, ◌≤◌, length, take}
use Rattle.node_threads.specs.Turns.{AddsTurns}
use Rattle.node_threads.proofs.turns.take_turns.Given as goal

abbrev pub invariant-loop-turn : goal.invariant-loop-turn
invariant-loop-turn g l = record {
  most : length l.seat.receipts ≤ length l.fn.seat.receipts + l.turn;
  kept : take (length l.fn.seat.receipts) l.seat.receipts ≡ l.fn.seat.receipts;
  node : l.seat.node ≡ l.fn.seat.node;
  turns : AddsTurns g.P.Application.app g.P.Application.from_text g.L.Sharing.book l.fn.seat.node
      l.fn.seat.receipts l.seat.receipts;
}
