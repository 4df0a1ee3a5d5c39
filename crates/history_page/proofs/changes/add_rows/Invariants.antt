-- The rows before the index were added.
use Rattle.std.proofs.Common.{◌≡◌, ◌++◌, take}
use Rattle.std.specs.List.{flat_map}
use Rattle.history_page.specs.Failing.{row_text}
use Rattle.history_page.proofs.changes.add_rows.Given as goal

abbrev pub invariant-loop-fault : goal.invariant-loop-fault
invariant-loop-fault l =
    l.rows.items ≡ l.initial.rows.items ++ flat_map row_text (take l.fault-index l.faults)
