use Rattle.std.proofs.Common.{◌≡◌, ◌==◌, ◌<◌, Some, length, position, subst, ap, sym, ◌∙◌, nat_cmp}
use Rattle.std.specs.List.Sorted.{IsBinarySearchResult}
use Rattle.topology.specs.Graph.{Graph, node_at}
use Rattle.topology.proofs.RowLemmas.{linked_by_search, no_node_index, node_index, strange_second}
use Rattle.topology.proofs.topology.Topology.neighbour_at.Goals as goal

pub returns-in-Some-clause-found : goal.returns-in-Some-clause-found
returns-in-Some-clause-found c =
    let are = c.self.invariant in
    let ids = c.self.inside.ids.ids in
    let j = c.in-Some.neighbour in
    let within : c.args.index < length ids =
    subst (λ (g : Graph). c.args.index < length g.ids) (sym c.self.view_is) c.requires in
    let is_index : Some j ≡ position (λ i. i == c.args.id) ids =
    (node_index ids c.self.inside.ids.nodes c.args.id j
    (c.in-Some.ensures ∙ ap (λ g. node_at g c.args.id) (sym c.self.view_is))).0 in
    rw (← c.self.view_is) (
      sym is_index,
      sym (linked_by_search ids _ are.tied.as_rows are.tied.as_ids.ascending c.args.index c.index.result.now within
          c.index.ensures c.args.id j is_index c.binary_search.result
          (subst (λ xs. IsBinarySearchResult (λ y. nat_cmp y j) xs c.binary_search.result) c.deref.ensures.value
          c.binary_search.ensures.position))
          ∙ sym c.is_ok.ensures.value ∙ c.if-is_ok.true,
    )

pub returns-in_default-clause-none : goal.returns-in_default-clause-none
returns-in_default-clause-none c =
    let are = c.self.invariant in
    let ids = c.self.inside.ids.ids in
    let j = c.in-Some.neighbour in
    let within : c.args.index < length ids =
    subst (λ (g : Graph). c.args.index < length g.ids) (sym c.self.view_is) c.requires in
    let is_index : Some j ≡ position (λ i. i == c.args.id) ids =
    (node_index ids c.self.inside.ids.nodes c.args.id j
    (c.in-Some.ensures ∙ ap (λ g. node_at g c.args.id) (sym c.self.view_is))).0 in
    rw (← c.self.view_is)
    (sym (linked_by_search ids _ are.tied.as_rows are.tied.as_ids.ascending c.args.index c.index.result.now within c.index.ensures
    c.args.id j is_index c.binary_search.result
    (subst (λ xs. IsBinarySearchResult (λ y. nat_cmp y j) xs c.binary_search.result) c.deref.ensures.value
    c.binary_search.ensures.position))
    ∙ sym c.is_ok.ensures.value ∙ c.if-is_ok.false)

pub returns-in_default-2-clause-none : goal.returns-in_default-2-clause-none
returns-in_default-2-clause-none c =
    let are = c.self.invariant in
    rw (← c.self.view_is)
    (strange_second _ c.self.inside.ids.nodes _ are.tied _ c.args.id
    (no_node_index _ c.self.inside.ids.nodes are.tied.as_nodes c.args.id
    (sym c.in_default.is ∙ c.node_at.ensures ∙ ap (λ g. node_at g c.args.id) (sym c.self.view_is))))
