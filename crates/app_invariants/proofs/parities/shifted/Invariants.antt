use Rattle.std.proofs.Common.{◌≡◌, ◌+◌, map, take}
use Rattle.app_invariants.proofs.parities.shifted.Given as goal

abbrev pub invariant-loop-index : goal.invariant-loop-index
invariant-loop-index l = l.shifted.items ≡ map (λ k. l.shift + k) (take l.index-index l.row)
