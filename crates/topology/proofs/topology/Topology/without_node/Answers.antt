use Rattle.std.proofs.Common.{◌≡◌, ◌-◌, false, ap, refl, sym, ◌∙◌, arith}
use Rattle.std.specs.Vec.{with_items}
use Rattle.topology.specs.Changing.{without_node}
use Rattle.topology.specs.Graph.{is_node, node_at}
use Rattle.topology.specs.Rows.{graph_of}
use Rattle.topology.proofs.Changed.{Made}
use Rattle.topology.proofs.LentRows.{lent_rows, row_links, searched_rows, without_node_made}
use Rattle.topology.proofs.Inserting.{rows_of}
use Rattle.topology.proofs.RowLemmas.{index_found, no_node_index}
use Rattle.topology.proofs.topology.Topology.without_node.Goals as goal
use Rattle.topology.proofs.topology.Topology.without_node.Goals.{After-len}

pub returns-in-None-clause-err : goal.returns-in-None-clause-err
returns-in-None-clause-err c =
    let g = c.args.self.now in
    let down : is_node g c.args.id ≡ false =
    ap (λ h. is_node h c.args.id) (sym c.self.view_is)
    ∙ no_node_index c.self.inside.ids.ids c.self.inside.ids.nodes c.self.invariant.tied.as_nodes c.args.id
    (c.in-None.ensures ∙ ap (λ h. node_at h c.args.id) (sym c.self.view_is)) in
    λ _. rw down refl

pub leaders_of-requires : goal.leaders_of-requires
leaders_of-requires c =
    searched_rows c.self.inside.ids c.self.inside.near.items c.self.inside.leaders.items c.self.inside.link_count
    c.self.invariant c.deref.result.now c.deref.ensures.value c.in_ok-rows.rows c.in_ok-rows.ensures
    c.deref_mut.result.now c.deref_mut.ensures.value c.isolate.new.near c.args.id c.in-Some.index
    (index_found c.self.inside.ids.ids c.self.inside.ids.nodes c.args.id c.in-Some.index
    (c.in-Some.ensures ∙ ap (λ g. node_at g c.args.id) (sym c.self.view_is)))
    c.isolate.ensures c.deref-3.result.now c.deref-3.ensures.value

pub overflow_sub-result : goal.overflow_sub-result
overflow_sub-result c =
    row_links c.self.inside.ids c.self.inside.near.items c.self.inside.leaders.items c.self.inside.link_count
    c.self.invariant c.deref.result.now c.deref.ensures.value c.in_ok-rows.rows c.in_ok-rows.ensures
    c.deref_mut.result.now c.deref_mut.ensures.value c.isolate.new.near c.args.id c.in-Some.index
    (index_found c.self.inside.ids.ids c.self.inside.ids.nodes c.args.id c.in-Some.index
    (c.in-Some.ensures ∙ ap (λ g. node_at g c.args.id) (sym c.self.view_is)))
    c.isolate.ensures c.deref-3.result.now c.deref-3.ensures.value c.in_ok-leaders.leaders.items
    c.in_ok-leaders.ensures c.index-2.result.now c.index-2.ensures c.len.result
    (omega (arith, c.len.ensures, c.index-2.result.now.ok.0))

-- what is made of the rows without the node's links
made_of : (c : After-len)
    → Made c.in_ok-ids.ids.ids c.in_ok-ids.ids.nodes
    (rows_of (with_items c.in_ok-rows.rows c.isolate.new.near).items)
    c.in_ok-leaders.leaders.items (c.self.inside.link_count - c.len.result)
    (without_node (graph_of c.self.inside.ids.ids c.self.inside.ids.nodes (rows_of c.self.inside.near.items)) c.args.id)
made_of c =
    without_node_made c.self.inside.ids c.self.inside.near.items c.self.inside.leaders.items c.self.inside.link_count
    c.self.invariant c.deref.result.now c.deref.ensures.value c.in_ok-rows.rows c.in_ok-rows.ensures
    c.deref_mut.result.now c.deref_mut.ensures.value c.isolate.new.near c.args.id c.in-Some.index
    (index_found c.self.inside.ids.ids c.self.inside.ids.nodes c.args.id c.in-Some.index
    (c.in-Some.ensures ∙ ap (λ g. node_at g c.args.id) (sym c.self.view_is)))
    c.isolate.ensures c.deref-3.result.now c.deref-3.ensures.value c.in_ok-leaders.leaders.items
    c.in_ok-leaders.ensures c.index-2.result.now c.index-2.ensures c.len.result
    (omega (arith, c.len.ensures, c.index-2.result.now.ok.0)) c.in_ok-ids.ids c.in_ok-ids.ensures

pub invariant_of-result : goal.invariant_of-result
invariant_of-result c = (made_of c).parts

pub returns-clause-ok : goal.returns-clause-ok
returns-clause-ok c = (made_of c).graph ∙ ap (λ g. without_node g c.args.id) c.self.view_is

pub isolate-requires-clause-rows : goal.isolate-requires-clause-rows
isolate-requires-clause-rows c =
    lent_rows c.self.inside.ids c.self.inside.near.items c.self.inside.leaders.items c.self.inside.link_count
    c.self.invariant c.deref.result.now c.deref.ensures.value c.in_ok-rows.rows c.in_ok-rows.ensures
    c.deref_mut.result.now c.deref_mut.ensures.value c.deref_mut.result.now
