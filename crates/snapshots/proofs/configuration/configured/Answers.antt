use Rattle.std.proofs.Common.{◌∙◌, ap, ap₂, not, filter, sym, subst, All, cond}
use Rattle.std.specs.List.{list_any}
use Rattle.topology.specs.Building.{joins}
use Rattle.topology.specs.Graph.{IsNode, are_linked}
use Rattle.snapshots.specs.Items.{has_node}
use Rattle.snapshots.specs.Parts.{without_nodes}
use Rattle.snapshots.proofs.Configured.{all_up, named_by}
use Rattle.snapshots.proofs.configuration.configured.Goals as goal

pub with_states-requires-after_bounds : goal.with_states-requires-after_bounds
with_states-requires-after_bounds g c κs within =
    let graph = c.args.topology.now in
    let nodes = c.args.reading.nodes.items in
    let linked = c.in_ok-linked.linked in
    let up = c.in_ok-linked.ensures.up ∙ c.in_ok-linked.ensures.ids in
    let network =
    c.in_ok-network.ensures
    ∙ ap₂ (λ ns is. without_nodes linked (filter (λ i. not (has_node ns i)) is)) c.deref-2.ensures.value c.ids.ensures
    in
    subst (λ t. All (λ node. IsNode t node.id) nodes) (sym (c.in_ok-config.ensures.ok.graph ∙ network))
    (all_up graph linked nodes c.requires.possible.known up)

pub returns : goal.returns
returns g c = λ items kept.
    let graph = c.args.topology.now in
    let linked = c.in_ok-linked.linked in
    let network =
    c.in_ok-network.ensures
    ∙ ap₂ (λ ns is. without_nodes linked (filter (λ i. not (has_node ns i)) is)) c.deref-2.ensures.value c.ids.ensures
    in
    named_by g.P.Application.app graph c.args.modulus items c.args.reading linked c.in_ok-config.config
    c.with_states.result c.lemma_is_graph.ensures.graph c.requires.possible c.requires.ends c.in_ok-linked.ensures.ids
    c.in_ok-linked.ensures.up
    (λ a b. c.in_ok-linked.ensures.links a b
    ∙ ap (λ ls. cond c.args.reading.lists_links (list_any (joins a b) ls) (are_linked graph a b)) c.deref.ensures.value)
    (c.in_ok-config.ensures.ok.graph ∙ network) c.in_ok-config.ensures.ok.modulus c.lemma_is_graph-2.ensures.graph
    c.lemma_is_graph-2.ensures.shaped c.with_states.ensures kept
