use Rattle.std.proofs.Common.{◌≡◌, true, length, rules, ap, ◌∙◌, arith}
use Rattle.topology.specs.Graph.{has}
use Rattle.topology.specs.Rows.{Membership}
use Rattle.topology.proofs.Indexes.{indexed_without, node_room}
use Rattle.topology.proofs.ids.Ids.without_node.Goals as goal

pub index_mut-requires : goal.index_mut-requires
index_mut-requires c =
    let up : has c.self.inside.nodes.items c.args.id ≡ true =
    ap (λ (r : Membership). has r.nodes c.args.id) c.self.view_is ∙ c.requires in
    omega (
      arith,
      node_room _ c.self.inside.indexes.items c.self.invariant c.args.id up,
      c.in_ok-indexes.ensures.len,
      ap (λ xs. length xs) c.deref-3.ensures.value,
    )

pub invariant_of-result : goal.invariant_of-result
invariant_of-result c =
    let up : has c.self.inside.nodes.items c.args.id ≡ true =
    ap (λ (r : Membership). has r.nodes c.args.id) c.self.view_is ∙ c.requires in
    let ids_are : c.in_ok-ascending.ascending.items ≡ c.self.inside.ascending.items = search rules in
    let nodes_are : c.in_ok-nodes.nodes.items ≡ c.self.inside.nodes.items = search rules in
    let indexes_are : c.in_ok-indexes.indexes.items ≡ c.self.inside.indexes.items = search rules in
    let members : Membership = record { ids = c.self.inside.ascending.items; nodes = c.self.inside.nodes.items } in
    rw (c.remove_id.ensures, ids_are, nodes_are, indexes_are)
    (indexed_without members c.self.inside.indexes.items c.self.invariant c.args.id up)
