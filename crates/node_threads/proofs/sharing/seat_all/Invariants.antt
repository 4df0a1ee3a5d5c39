-- A seat for each node so far, and a part for each that is left.
use Rattle.std.proofs.Common.{◌≡◌, ◌+◌, ◌≤◌, length, map, take}
use Rattle.std.specs.Vec.{vec_capacity}
use Rattle.node_threads.specs.Seats.{empty_seat}
use Rattle.node_threads.proofs.sharing.seat_all.Given as goal

abbrev pub invariant-loop-id : goal.invariant-loop-id
invariant-loop-id g l =
    (l.seats.items ≡ map empty_seat (take l.id-index l.ids))
    × (l.all.parts + l.id-index ≡ length l.ids + 1)
    × (l.all.amount ≡ 0)
    × (length l.ids ≤ vec_capacity l.seats)
