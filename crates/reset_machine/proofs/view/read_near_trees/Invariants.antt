use Rattle.std.proofs.Common.{◌≡◌, map, slice_index, take}
use Rattle.reset_model.specs.Configuration.{tree_of}
use Rattle.reset_machine.proofs.view.read_near_trees.Given as goal

-- the neighbours before the index have their registers
abbrev pub invariant-loop-near : goal.invariant-loop-near
invariant-loop-near g l =
    let config = l.place.config in
    l.near_trees.items
    ≡ map (λ j. (j, tree_of config j)) (map (λ n. slice_index config.graph.ids n) (take l.near-index l.near-items))
