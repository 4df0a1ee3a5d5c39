use Rattle.std.proofs.Common.{◌≡◌, ◌<◌, ◌==◌, ◌||◌, length, filter, get_or, rules, ap, sym, subst, ◌∙◌}
use Rattle.std.proofs.lemmas.List.{get_or_default}
use Rattle.topology.specs.Graph.{has}
use Rattle.topology.specs.Rows.{Membership}
use Rattle.topology.proofs.Indexes.{indexed_with}
use Rattle.topology.proofs.ids.Ids.with_node.Goals as goal

pub invariant_of-result : goal.invariant_of-result
invariant_of-result c =
    let members : Membership = record { ids = c.self.inside.ascending.items; nodes = c.self.inside.nodes.items } in
    let within : c.args.index < length members.ids =
    subst (λ (r : Membership). c.args.index < length r.ids) (sym c.self.view_is) c.requires in
    let id_is : c.index-id.result.now ≡ get_or members.ids c.args.index 0 =
    c.index-id.ensures ∙ get_or_default members.ids c.args.index c.index-id.result.now 0 within in
    let ids_are : c.in_ok-ascending.ascending.items ≡ members.ids = search rules in
    let indexes_are : c.in_ok-indexes.indexes.items ≡ c.self.inside.indexes.items = search rules in
    let nodes_are : c.in_ok-nodes.nodes.items
    ≡ filter (λ j. has members.nodes j || j == get_or members.ids c.args.index 0) members.ids =
    c.in_ok-nodes.ensures
    ∙ ap (λ (r : Membership). filter (λ j. has r.nodes j || j == c.index-id.result.now) r.ids) (sym c.self.view_is)
    ∙ ap (λ x. filter (λ j. has members.nodes j || j == x) members.ids) id_is in
    rw (nodes_are, ids_are, indexes_are, id_is)
    (indexed_with members c.self.inside.indexes.items c.self.invariant c.args.index within)
