-- The seats so far, and what the threads that are left give back.
use Rattle.std.proofs.Common.{◌≡◌, ◌+◌, ◌++◌, ◌≤◌, length}
use Rattle.std.specs.Vec.{vec_capacity}
use Rattle.std.specs.Vec.Iter.{into_iter_items, into_iter_len}
use Rattle.node_threads.specs.Seats.{nodes_of}
use Rattle.node_threads.specs.Threads.{promised}
use Rattle.node_threads.proofs.Promising.{AreJoined}
use Rattle.node_threads.proofs.threads.join_all.Given as goal

abbrev pub invariant-loop-thread : goal.invariant-loop-thread
invariant-loop-thread g l =
    (nodes_of l.seats.items ++ promised (into_iter_items l.thread-iterator) ≡ promised l.fn.started.threads.items)
    × (length l.seats.items + into_iter_len l.thread-iterator ≤ length l.fn.started.threads.items)
    × (length l.fn.started.threads.items ≤ vec_capacity l.seats)
    × AreJoined l.fn.task l.seats.items (into_iter_items l.thread-iterator)
