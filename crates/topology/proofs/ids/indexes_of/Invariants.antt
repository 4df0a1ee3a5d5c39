use Rattle.std.proofs.Common.{◌≡◌, ◌+◌, length}
use Rattle.topology.proofs.Indexes.{HasFirst}
use Rattle.topology.proofs.ids.indexes_of.Given as goal

abbrev pub invariant-loop-index : goal.invariant-loop-index
invariant-loop-index l = (length l.indexes.items ≡ l.greatest + 1) × HasFirst l.ids l.index l.indexes.items
