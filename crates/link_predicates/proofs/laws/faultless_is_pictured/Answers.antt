use Rattle.std.proofs.Common.{arith}
use Rattle.topology.specs.Graph.{node_bound}
use Rattle.reset_model.specs.Configuration.{tree_of, wave_of}
use Rattle.link_predicates.proofs.laws.faultless_is_pictured.Goals as goal

pub returns : goal.returns
returns g c = λ config graph.
    let t = tree_of config in
    let w = wave_of config in
    let tree = c.tree_pictures.ensures config.graph (node_bound config.graph) t graph (omega arith) in
    let wave = c.wave_pictures.ensures config.graph config.modulus t w graph in (
      λ all. let sound =
          (c.faultless_is_sound.ensures config graph).0 all
          in (let picture = tree.0 sound.tree in (picture, (wave picture).0 sound.wave)),
      λ pictures. (c.faultless_is_sound.ensures config graph).1
          (record { tree = tree.1 pictures.0; wave = (wave pictures.0).1 pictures.1 }),
    )
