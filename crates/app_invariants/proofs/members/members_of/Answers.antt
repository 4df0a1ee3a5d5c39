use Rattle.std.proofs.Common.{◌≡◌, ◌==◌, ◌&&◌, filter, take, ap, sym, ◌∙◌, arith}
use Rattle.std.proofs.lemmas.List.{take_all}
use Rattle.topology.specs.Components.{leader}
use Rattle.topology.specs.Graph.{is_node}
use Rattle.app_invariants.proofs.Parts.{part_nodes}
use Rattle.app_invariants.proofs.members.members_of.Goals as goal

pub returns-clause-nodes : goal.returns-clause-nodes
returns-clause-nodes c =
    let g = c.args.topology.now in
    let whole : take c.loop-index.index g.ids ≡ g.ids = take_all c.loop-index.index g.ids (omega arith) in
    c.loop-index.invariant.nodes
    ∙ ap (filter (λ j. is_node g j && (leader g j == c.leader_of-lead.result))) whole
    ∙ ap (λ lead. filter (λ j. is_node g j && (leader g j == lead)) g.ids) c.leader_of-lead.ensures
    ∙ sym (part_nodes g c.args.at c.lemma_is_graph.ensures.graph c.requires)
