use Rattle.std.proofs.Common.{sym}
use Rattle.wave_layer.specs.declared.regs.Phase.TheVariants.{Normal}
use Rattle.reset_model.proofs.NodePositions.{no_node_placed, node_placed}
use Rattle.reset_model.proofs.Positions.{value_at-position}
use Rattle.reset_machine.proofs.config.Config.wave_at.Goals as goal

pub returns-in-None-clause-none : goal.returns-in-None-clause-none
returns-in-None-clause-none g c =
    let missing = rw (c.topology.ensures, c.self.view_is) at (sym c.in-None.ensures) in
    no_node_placed c.args.self.now.graph (rw (← c.self.view_is) c.lemma_is_graph.ensures.graph) c.args.id missing

pub returns-in-Some-clause-found : goal.returns-in-Some-clause-found
returns-in-Some-clause-found g c =
    let now = c.self.inside.nodes in
    let placed = node_placed now.graph c.args.id _ (rw c.topology.ensures at (sym c.in-Some.ensures)) in
    let found = placed.1 in
    rw (c.waves-waves.ensures.value, ← c.self.view_is) (
      placed.0,
      sym (value_at-position (record { phase = Normal; session = 0 }) now.graph.ids now.waves _ c.args.id
          c.waves-waves.ensures.shaped.waves found),
    )
