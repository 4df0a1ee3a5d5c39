-- The numbers up to here, with a comma and a space behind each, and what is left.
use Rattle.std.proofs.Common.{◌≡◌, ◌++◌, All, decimal, length}
use Rattle.topology.specs.TopologyTable.{IsSmall}
use Rattle.topology.proofs.PlainLines.{each_ended}
use Rattle.topology.proofs.text.lines.numbers.Given as goal

abbrev pub invariant-loop-number : goal.invariant-loop-number
invariant-loop-number l = (l.text ≡ each_ended decimal l.numbers.items ++ l.rest) × All IsSmall l.numbers.items

abbrev pub decreases-loop-number : goal.decreases-loop-number
decreases-loop-number l = length l.rest
