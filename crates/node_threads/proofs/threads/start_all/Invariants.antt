-- What the threads so far give back, and the seats that are left.
use Rattle.std.proofs.Common.{◌≡◌, ◌+◌, ◌≤◌, false, length}
use Rattle.std.specs.Vec.{vec_capacity}
use Rattle.std.specs.Vec.Iter.{into_iter_items, into_iter_len}
use Rattle.node_threads.proofs.Promising.{AreStarted, AreTasked}
use Rattle.node_threads.proofs.threads.start_all.Given as goal

abbrev pub invariant-loop-seat : goal.invariant-loop-seat
invariant-loop-seat g l =
    (l.refused ≡ false
    → AreStarted l.threads.items (into_iter_items l.seat-iterator) (into_iter_len l.seat-iterator) l.fn.seats.items)
    × (length l.threads.items + into_iter_len l.seat-iterator ≤ length l.fn.seats.items)
    × (length l.fn.seats.items ≤ vec_capacity l.threads)
    × AreTasked l.task l.threads.items (into_iter_items l.seat-iterator)
