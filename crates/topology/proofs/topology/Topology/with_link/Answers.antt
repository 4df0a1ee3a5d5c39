use Rattle.std.proofs.Common.{◌+◌, ap, sym, ◌∙◌}
use Rattle.topology.specs.Changing.{with_link}
use Rattle.topology.specs.Graph.{are_linked}
use Rattle.topology.specs.Rows.{graph_of}
use Rattle.std.specs.Vec.{with_items}
use Rattle.topology.proofs.Changed.{Made}
use Rattle.topology.proofs.LentRows.{lent_rows, with_link_made}
use Rattle.topology.proofs.Inserting.{rows_of}
use Rattle.topology.proofs.topology.Topology.with_link.Goals as goal
use Rattle.topology.proofs.topology.Topology.with_link.Goals.{In_ok-copy}

-- what is made of the rows with the link
made_of : (c : In_ok-copy)
    → Made c.in_ok-copy.field-0.ids c.in_ok-copy.field-0.nodes (rows_of (with_items c.in_ok-rows.rows c.link.new.near).items)
    c.in_ok-leaders.leaders.items (c.self.inside.link_count + 1)
    (with_link (graph_of c.self.inside.ids.ids c.self.inside.ids.nodes (rows_of c.self.inside.near.items)) c.args.a
    c.args.b)
made_of c =
    with_link_made c.self.inside.ids c.self.inside.near.items c.self.inside.leaders.items c.self.inside.link_count
    c.self.invariant c.deref.result.now c.deref.ensures.value c.in_ok-rows.rows c.in_ok-rows.ensures
    c.deref_mut.result.now c.deref_mut.ensures.value c.link.new.near
    c.args.a c.args.b c.in-Ok.ends.0 c.in-Ok.ends.1 c.in-Ok.ensures.ok.0 c.in-Ok.ensures.ok.1
    c.deref-2.result.now c.deref-2.ensures.value c.in_ok-leaders.leaders.items c.in_ok-leaders.ensures
    c.in_ok-copy.field-0 c.in_ok-copy.ensures c.in-Ok.ensures.up.0 c.in-Ok.ensures.up.1
    c.in_ok-link.field-0 c.in_ok-link.ensures
    c.if-a-b.false (ap (λ g. are_linked g c.args.a c.args.b) c.self.view_is ∙ sym c.linked.ensures ∙ c.if-linked.false)

pub invariant_of-result : goal.invariant_of-result
invariant_of-result c = (made_of c).parts

pub returns-clause-ok : goal.returns-clause-ok
returns-clause-ok c = (made_of c).graph ∙ ap (λ g. with_link g c.args.a c.args.b) c.self.view_is

pub link-requires-clause-rows : goal.link-requires-clause-rows
link-requires-clause-rows c =
    lent_rows c.self.inside.ids c.self.inside.near.items c.self.inside.leaders.items c.self.inside.link_count
    c.self.invariant c.deref.result.now c.deref.ensures.value c.in_ok-rows.rows c.in_ok-rows.ensures
    c.deref_mut.result.now c.deref_mut.ensures.value c.deref_mut.result.now
