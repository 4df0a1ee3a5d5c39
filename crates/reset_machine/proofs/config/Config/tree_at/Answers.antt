use Rattle.std.proofs.Common.{sym}
use Rattle.reset_model.proofs.NodePositions.{no_node_placed, node_placed}
use Rattle.reset_model.proofs.Positions.{value_at-position}
use Rattle.reset_machine.proofs.config.Config.tree_at.Goals as goal

pub returns-in-None-clause-none : goal.returns-in-None-clause-none
returns-in-None-clause-none g c =
    let missing = rw (c.topology.ensures, c.self.view_is) at (sym c.in-None.ensures) in
    no_node_placed c.args.self.now.graph (rw (← c.self.view_is) c.lemma_is_graph.ensures.graph) c.args.id missing

pub returns-in-Some-clause-found : goal.returns-in-Some-clause-found
returns-in-Some-clause-found g c =
    let now = c.self.inside.nodes in
    let placed = node_placed now.graph c.args.id _ (rw c.topology.ensures at (sym c.in-Some.ensures)) in
    let found = placed.1 in
    rw (c.trees-trees.ensures.value, ← c.self.view_is) (
      placed.0,
      sym (value_at-position (record { root = 0; father = 0; dist = 0 }) now.graph.ids now.trees _ c.args.id
          c.trees-trees.ensures.shaped.trees found),
    )
