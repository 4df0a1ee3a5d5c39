-- The cases before the index were written.
use Rattle.std.proofs.Common.{take}
use Rattle.std.specs.List.{flat_map}
use Rattle.std.specs.Io.KnownBytes.{Appends}
use Rattle.action_tables.specs.RowText.{case_above}
use Rattle.action_tables.proofs.part.put_cases_above.Given as goal

abbrev pub invariant-loop-case : goal.invariant-loop-case
invariant-loop-case g l =
    Appends (g.W.Write.contents l.initial.out) (g.W.Write.contents l.out)
    (flat_map (case_above l.set l.number) (take l.case-index l.cases))
