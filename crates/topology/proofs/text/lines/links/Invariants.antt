-- The links up to here, with a comma and a space behind each, and what is left.
use Rattle.std.proofs.Common.{◌≡◌, ◌++◌, All, length}
use Rattle.topology.specs.TopologyTable.{IsSmallLink, link_text}
use Rattle.topology.proofs.PlainLines.{each_ended}
use Rattle.topology.proofs.text.lines.links.Given as goal

abbrev pub invariant-loop-ends : goal.invariant-loop-ends
invariant-loop-ends l =
    (l.text ≡ each_ended link_text l.links.items ++ l.rest) × All IsSmallLink l.links.items

abbrev pub decreases-loop-ends : goal.decreases-loop-ends
decreases-loop-ends l = length l.rest
