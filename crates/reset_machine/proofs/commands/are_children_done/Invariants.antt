use Rattle.std.proofs.Common.{◌≡◌, drop}
use Rattle.wave_layer.specs.WaveTable.{children_done}
use Rattle.reset_model.specs.Configuration.{tree_of, wave_of}
use Rattle.reset_machine.proofs.Children.{children_among}
use Rattle.reset_machine.proofs.commands.are_children_done.Given as goal

-- the children among the neighbours that are left are done where all of them are
abbrev pub invariant-loop-near : goal.invariant-loop-near
invariant-loop-near g l =
    let config = l.place.config in
    let found = children_among config.graph.ids (tree_of config) (wave_of config) l.place.id in
    children_done l.session (found (drop l.near-index l.near-items)) ≡ children_done l.session (found l.near-items)
