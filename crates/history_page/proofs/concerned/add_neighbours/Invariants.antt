-- The neighbours before the index were added.
use Rattle.std.proofs.Common.{◌≡◌, ◌++◌, map, slice_index, take}
use Rattle.history_page.proofs.concerned.add_neighbours.Given as goal

abbrev pub invariant-loop-near : goal.invariant-loop-near
invariant-loop-near l =
    l.ids.items
    ≡ l.initial.ids.items ++ map (λ n. slice_index l.topology.ids n) (take l.near-index l.near-items)
