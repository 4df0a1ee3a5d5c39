use Rattle.std.proofs.Common.{◌∙◌, sym}
use Rattle.snapshots.specs.Reading.Says.{an_item, nothing}
use Rattle.snapshots.proofs.line.read_line.Goals as goal

pub returns-then-is_silent-clause-ok : goal.returns-then-is_silent-clause-ok
returns-then-is_silent-clause-ok g c =
    nothing c.if-line-gt-MAX_SNAPSHOT_LINE.false (sym c.is_silent.ensures ∙ c.if-is_silent.true)

pub returns-in-Some-clause-ok : goal.returns-in-Some-clause-ok
returns-in-Some-clause-ok g c =
    an_item c.if-line-gt-MAX_SNAPSHOT_LINE.false c.in-Some.item (rw c.in-Some.is at c.in_ok-item.ensures.found)
