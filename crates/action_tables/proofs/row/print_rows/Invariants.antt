-- The rows before the index were written.
use Rattle.std.proofs.Common.{take}
use Rattle.std.specs.List.{flat_map}
use Rattle.std.specs.Io.KnownBytes.{Appends}
use Rattle.action_tables.specs.RowText.{as_printed}
use Rattle.action_tables.specs.Table.{row_line}
use Rattle.action_tables.proofs.row.print_rows.Given as goal

abbrev pub invariant-loop-row : goal.invariant-loop-row
invariant-loop-row g l =
    Appends (g.W.Write.contents l.initial.out) (g.W.Write.contents l.out)
    (flat_map (λ row. row_line (as_printed row)) (take l.row-index l.rows))
