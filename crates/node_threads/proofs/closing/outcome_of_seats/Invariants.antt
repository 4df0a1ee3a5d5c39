use Rattle.std.proofs.Common.{◌≡◌, ◌+◌, ◌≤◌, length}
use Rattle.std.specs.Vec.{vec_capacity}
use Rattle.std.specs.Vec.Iter.{into_iter_items, into_iter_len}
use Rattle.node_threads.proofs.Collecting.{IsCollected}
use Rattle.node_threads.proofs.closing.outcome_of_seats.Given as goal

abbrev pub invariant-loop-seat : goal.invariant-loop-seat
invariant-loop-seat g l =
    IsCollected l.all.parts l.all.amount l.lists.items (into_iter_items l.seat-iterator) l.fn.seats.items
    × (l.all.parts ≤ g.L.Ledger.parts)
    × (length l.lists.items + into_iter_len l.seat-iterator ≡ length l.fn.seats.items)
    × (length l.fn.seats.items ≤ vec_capacity l.lists)
