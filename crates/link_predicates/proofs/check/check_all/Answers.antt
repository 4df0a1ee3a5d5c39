use Rattle.std.proofs.Common.{◌<◌, ◌≤◌, Global, Vec, filter, flat_map, length, slice_index, take_all, ap, sym}
use Rattle.std.proofs.Common.{◌∙◌, subst, arith}
use Rattle.topology.specs.Graph.{Graph, IsGraph, is_node}
use Rattle.link_predicates.specs.Faults.{node_faults}
use Rattle.link_predicates.specs.declared.fault.LinkFault.{LinkFault}
use Rattle.link_predicates.proofs.NodeFaults.{one_down, one_up}
use Rattle.link_predicates.proofs.check.check_all.Goals.{then-is_up+in_ok-add_node, else-is_up}
use Rattle.link_predicates.proofs.check.check_all.Goals as goal

pub loop-index-preserved : goal.loop-index-preserved
loop-index-preserved g c =
    let graph = c.args.config.now.graph in
    let told = node_faults g.P.Application.app c.args.config.now in
    let index = c.loop-index.index in
    let found = c.loop-index.found.items in
    let same = c.topology-topology.ensures in
    let short : index < length graph.ids =
    omega (arith, c.loop-index-test.true, c.len-index-end.ensures, ap (λ (h : Graph). length h.ids) same) in
    let up = sym (ap (λ (h : Graph). is_node h (slice_index h.ids index)) same) ∙ sym c.is_up.ensures in
    elim c.if-is_up.branch [
      | then-is_up+in_ok-add_node w ↦ one_up told (is_node graph) graph.ids index found short c.loop-index.invariant
          c.if-is_up.found.items (up ∙ w.if-is_up.true)
          (ap (λ (v : Vec LinkFault Global). v.items) w.found-is ∙ w.in_ok-add_node.ensures)
      | else-is_up w ↦ ap (λ (v : Vec LinkFault Global). v.items) w.found-is
          ∙ one_down told (is_node graph) graph.ids index found short c.loop-index.invariant (up ∙ w.if-is_up.false)
    ]

pub returns : goal.returns
returns g c =
    let graph = c.args.config.now.graph in
    let told = node_faults g.P.Application.app c.args.config.now in
    let index = c.loop-index.index in
    let same = c.topology-topology.ensures in
    let ended : length graph.ids ≤ index =
    omega (arith, c.loop-index-test.false, c.len-index-end.ensures, ap (λ (h : Graph). length h.ids) same) in
    c.loop-index.invariant
    ∙ ap (λ ids. flat_map told (filter (is_node graph) ids)) (take_all index graph.ids ended)
    ∙ ap (flat_map told) (c.nodes_are_up.ensures graph (subst IsGraph same c.lemma_is_graph.ensures.graph))
