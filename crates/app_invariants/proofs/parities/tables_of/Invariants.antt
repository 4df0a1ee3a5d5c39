use Rattle.std.proofs.Common.{◌≡◌, ℕ, ◌<◌, length, get_or}
use Rattle.topology.specs.Rows.{row_at}
use Rattle.topology.proofs.Inserting.{rows_of}
use Rattle.app_invariants.specs.Parities.{TellsWalks}
use Rattle.app_invariants.proofs.parities.tables_of.Given as goal

-- the tables so far are those of the first members
abbrev pub invariant-loop-index : goal.invariant-loop-index
invariant-loop-index l =
    record {
      count : length (rows_of l.tables.items) ≡ l.index-index;
      each : (p : ℕ) → p < l.index-index
          → TellsWalks l.topology (get_or l.topology.ids (get_or l.members p 0) 0) (row_at (rows_of l.tables.items) p);
    }
