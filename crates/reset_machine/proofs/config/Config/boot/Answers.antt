use Rattle.std.proofs.Common.{sym, subst}
use Rattle.topology.specs.Graph.{IsGraph}
use Rattle.reset_model.proofs.SoundConfigurations.{boot_tree_picture, boot_wave_picture, pictures_sound}
use Rattle.reset_machine.proofs.config.Config.boot.Goals as goal

pub returns-clause-tree_picture : goal.returns-clause-tree_picture
returns-clause-tree_picture g c =
    boot_tree_picture g.P.Application.app c.args.topology c.args.modulus c.in_ok-nodes.nodes
    c.lemma_is_graph.ensures.graph c.in_ok-nodes.ensures.ok

pub returns-clause-wave_picture : goal.returns-clause-wave_picture
returns-clause-wave_picture g c =
    boot_wave_picture g.P.Application.app c.args.topology c.args.modulus c.in_ok-nodes.nodes c.in_ok-nodes.ensures.ok

pub returns-clause-sound : goal.returns-clause-sound
returns-clause-sound g c =
    let app = g.P.Application.app in
    let nodes = c.in_ok-nodes.nodes in
    let same = sym c.in_ok-nodes.ensures.ok.graph in
    pictures_sound nodes (subst IsGraph same c.lemma_is_graph.ensures.graph)
    (boot_tree_picture app c.args.topology c.args.modulus nodes c.lemma_is_graph.ensures.graph c.in_ok-nodes.ensures.ok)
    (boot_wave_picture app c.args.topology c.args.modulus nodes c.in_ok-nodes.ensures.ok)
