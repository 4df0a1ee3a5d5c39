use Rattle.topology.proofs.Inserting.{rows_of}
use Rattle.app_invariants.specs.Parities.{PushesShifted}
use Rattle.app_invariants.proofs.parities.push_shifted.Given as goal

-- the rows so far are put behind
abbrev pub invariant-loop-index : goal.invariant-loop-index
invariant-loop-index l =
    PushesShifted l.topology l.shift l.index (rows_of l.initial.rows.items) (rows_of l.rows.items)
