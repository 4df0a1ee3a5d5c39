use Rattle.std.proofs.Common.{sym}
use Rattle.reset_model.proofs.NodePositions.{no_node_placed, node_placed}
use Rattle.reset_model.proofs.Positions.{read_at-position}
use Rattle.reset_machine.proofs.config.Config.local_at.Goals as goal

pub returns-in-None-clause-none : goal.returns-in-None-clause-none
returns-in-None-clause-none g c =
    let missing = rw (c.topology.ensures, c.self.view_is) at (sym c.in-None.ensures) in
    no_node_placed c.args.self.now.graph (rw (← c.self.view_is) c.lemma_is_graph.ensures.graph) c.args.id missing

pub returns-in-Some-clause-found : goal.returns-in-Some-clause-found
returns-in-Some-clause-found g c =
    let now = c.self.inside.nodes in
    let placed = node_placed now.graph c.args.id _ (rw c.topology.ensures at (sym c.in-Some.ensures)) in
    let found = placed.1 in
    let read = rw c.locals-locals.ensures.value at c.index-locals-ix.is in
    rw (← c.self.view_is) (
      placed.0,
      read_at-position (g.P.Application.app.start now.graph c.args.id) now.graph.ids now.locals _ c.args.id _
          c.locals-locals.ensures.shaped.locals found read,
    )
