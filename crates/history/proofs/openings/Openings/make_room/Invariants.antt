-- The table tells what it told, and has a place for each index that was passed.
use Rattle.std.proofs.Common.{◌≡◌, ℕ, ◌≤◌, length}
use Rattle.history.specs.Played.{table_at}
use Rattle.history.proofs.openings.Openings.make_room.Given as goal

abbrev pub invariant-loop : goal.invariant-loop
invariant-loop l =
    ((k : ℕ) → table_at l.self k ≡ table_at l.initial.self k) × (l.self.last_fault ≡ l.initial.self.last_fault)
    × (l.counter ≤ length l.self.positions.items)
