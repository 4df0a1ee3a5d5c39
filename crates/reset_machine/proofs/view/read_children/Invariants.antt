use Rattle.std.proofs.Common.{◌≡◌, ◌++◌, drop}
use Rattle.reset_model.specs.Configuration.{tree_of, wave_of}
use Rattle.reset_machine.proofs.Children.{children_among}
use Rattle.reset_machine.proofs.view.read_children.Given as goal

-- the children so far, and those among the neighbours that are left, are those among all of them
abbrev pub invariant-loop-near : goal.invariant-loop-near
invariant-loop-near g l =
    let config = l.place.config in
    let found = children_among config.graph.ids (tree_of config) (wave_of config) l.place.id in
    l.children.items ++ found (drop l.near-index l.near-items) ≡ found l.near-items
