use Rattle.std.proofs.Common.{◌≡◌, All, take}
use Rattle.node_threads.specs.Seats.{of_node}
use Rattle.node_threads.proofs.closing.compared.Given as goal

abbrev pub invariant-loop-seat : goal.invariant-loop-seat
invariant-loop-seat g l = All (λ s. s.receipts ≡ of_node s.node l.told) (take l.seat-index l.seats)
