-- The lines that were passed say the items that are kept.
use Rattle.std.proofs.Common.{◌≡◌, ◌≤◌, ◌+◌, ◌++◌, [], ℕ, List, length}
use Rattle.applications.specs.Meaning.{meaning_of}
use Rattle.script_replay.specs.Lines.{lines_of}
use Rattle.snapshots.specs.Parts.{AreKept}
use Rattle.snapshots.specs.Reading.{Say}
use Rattle.snapshots.specs.declared.item.Item.{Item}
use Rattle.snapshots.proofs.reading.take_lines.Given as goal

abbrev pub invariant-loop-line : goal.invariant-loop-line
invariant-loop-line g l =
    let m =
    meaning_of g.P.Application.app g.P.Application.text g.P.Application.from_text g.P.Application.names
    g.P.Invariant.counts in
    (lines : List (List ℕ)) × (items : List (Item g.row.P-Local.Denot)) × (lines_of l.text ≡ lines ++ lines_of l.rest)
    × (l.number ≡ length lines + 1) × (l.number + length l.rest ≤ length l.text + 1)
    × Say m l.topology 1 [] lines items × AreKept items l.reading

abbrev pub decreases-loop-line : goal.decreases-loop-line
decreases-loop-line g l = length l.rest
