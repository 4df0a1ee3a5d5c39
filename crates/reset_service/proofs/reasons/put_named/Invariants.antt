-- What those of the rows before the index ask for that have the name was written.
use Rattle.std.proofs.Common.{take}
use Rattle.std.specs.Io.KnownBytes.{Appends}
use Rattle.std.specs.List.{flat_map}
use Rattle.action_tables.specs.RowText.{as_printed}
use Rattle.reset_service.specs.Reasons.{named_line}
use Rattle.reset_service.proofs.reasons.put_named.Given as goal

abbrev pub invariant-loop-row : goal.invariant-loop-row
invariant-loop-row g l =
    Appends (g.W.Write.contents l.initial.out) (g.W.Write.contents l.out)
    (flat_map (λ row. named_line l.name (as_printed row)) (take l.row-index l.rows))
