use Rattle.std.proofs.Common.{◌≡◌}
use Rattle.toml.specs.View.{view}
use Rattle.topology.specs.TopologyText.{array_of, number_of}
use Rattle.topology.proofs.TopologyTexts.{after, given_from}
use Rattle.topology.proofs.text.numbers.Given as goal

abbrev pub invariant-loop-item : goal.invariant-loop-item
invariant-loop-item l =
    array_of number_of (view l.value) ≡ after l.numbers.items (given_from number_of l.item-items l.item-index)
