-- The lines of the identifiers before the index were written.
use Rattle.std.proofs.Common.{take}
use Rattle.std.specs.List.{flat_map}
use Rattle.std.specs.Io.KnownBytes.{Appends}
use Rattle.history_page.specs.Opening.{boot_line}
use Rattle.history_page.proofs.boot.put_boot_lines.Given as goal

abbrev pub invariant-loop-id : goal.invariant-loop-id
invariant-loop-id g l =
    Appends (g.W.Write.contents l.initial.out) (g.W.Write.contents l.out)
    (flat_map (boot_line g.P.Application.app g.P.Application.text l.opening) (take l.id-index l.ids))
