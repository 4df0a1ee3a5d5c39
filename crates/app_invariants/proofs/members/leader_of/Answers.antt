use Rattle.std.proofs.Common.{true≢false, sym, ap, ◌∙◌}
use Rattle.topology.specs.Components.{leader}
use Rattle.topology.specs.Graph.{is_node}
use Rattle.topology.proofs.Membership.{has-Contains}
use Rattle.topology.proofs.RowLemmas.{index_found, no_node_index}
use Rattle.app_invariants.proofs.members.leader_of.Goals as goal

pub greatest_of-requires-clause-within : goal.greatest_of-requires-clause-within
greatest_of-requires-clause-within c =
    let g = c.args.topology.now in
    (index_found g.ids g.nodes c.args.at c.in-Some.index c.in-Some.ensures).0

pub greatest_of-requires-clause-up : goal.greatest_of-requires-clause-up
greatest_of-requires-clause-up c =
    let g = c.args.topology.now in
    ap (is_node g) (index_found g.ids g.nodes c.args.at c.in-Some.index c.in-Some.ensures).1
    ∙ has-Contains g.nodes c.args.at c.requires

pub unreachable-requires : goal.unreachable-requires
unreachable-requires c =
    let g = c.args.topology.now in
    let are = c.lemma_is_graph.ensures.graph in
    absurd
    (true≢false (sym (has-Contains g.nodes c.args.at c.requires)
    ∙ no_node_index g.ids g.nodes (record { rising = are.rising; within = are.within }) c.args.at c.in-None.ensures))

pub returns : goal.returns
returns c =
    let g = c.args.topology.now in
    c.get.ensures.number ∙ c.greatest_of.ensures
    ∙ ap (leader g) (index_found g.ids g.nodes c.args.at c.in-Some.index c.in-Some.ensures).1
