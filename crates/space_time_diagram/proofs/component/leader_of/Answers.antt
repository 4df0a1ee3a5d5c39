use Rattle.std.proofs.Common.{ap, sym, ◌∙◌}
use Rattle.topology.specs.Components.{leader}
use Rattle.topology.specs.Graph.{is_node}
use Rattle.reset_model.proofs.NodePositions.{a_node, no_node_placed, node_placed}
use Rattle.reset_model.proofs.Positions.{id_at-position}
use Rattle.space_time_diagram.proofs.component.leader_of.Goals as goal

pub greatest_of-requires-clause-up : goal.greatest_of-requires-clause-up
greatest_of-requires-clause-up c =
    let g = c.args.topology.now in
    let placed = node_placed g c.args.node c.in-Some.index (sym c.in-Some.ensures) in
    ap (is_node g) (id_at-position g.ids c.in-Some.index c.args.node placed.1) ∙ a_node g.nodes c.args.node placed.0

pub returns-in-Some-clause-found : goal.returns-in-Some-clause-found
returns-in-Some-clause-found c =
    let g = c.args.topology.now in
    let placed = node_placed g c.args.node c.in-Some.index (sym c.in-Some.ensures) in (
      placed.0,
      c.get.ensures.number ∙ c.greatest_of.ensures
          ∙ ap (leader g) (id_at-position g.ids c.in-Some.index c.args.node placed.1),
    )

pub returns-in-None-clause-none : goal.returns-in-None-clause-none
returns-in-None-clause-none c =
    no_node_placed c.args.topology.now c.lemma_is_graph.ensures.graph c.args.node (sym c.in-None.ensures)
