use Rattle.std.proofs.Common.{ap, sym, ◌∙◌}
use Rattle.reset_model.specs.Configuration.{wave_of}
use Rattle.topology.specs.Graph.{is_node}
use Rattle.reset_model.proofs.NodePositions.{a_node, no_node_placed, node_placed}
use Rattle.reset_model.proofs.Positions.{id_at-position}
use Rattle.reset_machine.proofs.LedNodes.{is_leader, placed_leader, placed_node}
use Rattle.reset_machine.proofs.config.Config.newest_session.Goals as goal

-- the node that was found is up
pub greatest_of-requires-clause-up : goal.greatest_of-requires-clause-up
greatest_of-requires-clause-up g c =
    let h = c.topology-topology.result.now in
    let placed = node_placed h c.args.id c.in-Some.index (sym c.in-Some.ensures) in
    ap (is_node h) (id_at-position h.ids c.in-Some.index c.args.id placed.1) ∙ a_node h.nodes c.args.id placed.0

pub session_at-requires-after_bounds : goal.session_at-requires-after_bounds
session_at-requires-after_bounds g c κs within =
    let same = c.topology-topology.ensures ∙ ap (λ n. n.graph) c.self.view_is in
    placed_leader _ c.args.self.now.graph same c.in-Some.index c.args.id c.in-Some.ensures c.get.result
    (c.get.ensures.number ∙ c.greatest_of.ensures) (rw (← c.self.view_is) c.lemma_is_graph.ensures.graph)

pub returns-in-Some-clause-found : goal.returns-in-Some-clause-found
returns-in-Some-clause-found g c =
    let same = c.topology-topology.ensures ∙ ap (λ n. n.graph) c.self.view_is in (
      placed_node _ c.args.self.now.graph same c.in-Some.index c.args.id c.in-Some.ensures,
      c.session_at.ensures
          ∙ ap (λ l. (wave_of c.args.self.now l).session)
          (is_leader _ c.args.self.now.graph same c.in-Some.index c.args.id c.in-Some.ensures c.get.result
          (c.get.ensures.number ∙ c.greatest_of.ensures)),
    )

pub returns-in-None-clause-none : goal.returns-in-None-clause-none
returns-in-None-clause-none g c =
    let missing = rw (c.topology-topology.ensures, c.self.view_is) at (sym c.in-None.ensures) in
    no_node_placed c.args.self.now.graph (rw (← c.self.view_is) c.lemma_is_graph.ensures.graph) c.args.id missing
