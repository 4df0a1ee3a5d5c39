use Rattle.std.proofs.Common.{◌≡◌, true, false, slice_index, subst, sym, ◌∙◌}
use Rattle.topology.specs.Graph.{Graph, are_linked}
use Rattle.link_predicates.proofs.OwnRows.{father_row, stray_row}
use Rattle.link_predicates.proofs.check.own_row.Goals as goal

pub returns-in-Some : goal.returns-in-Some
returns-in-Some g c =
    let Linked : Graph → Type 0 = λ h. are_linked h (slice_index h.ids c.args.index) c.own.inside.tree.father ≡ true in
    let up = c.own.inside.tree in
    sym (c.is_settled.ensures c.if-is_settled.true up)
    ∙ father_row g.P.Application.app c.args.config.now c.lemma_is_graph.ensures.graph _ _ _
    (c.own.view_is ∙ c.requires.there) c.limits_of-k.ensures.bound up
    (subst Linked c.topology-topology.ensures c.in-Some.ensures.found.1)

pub returns-in-Some-2 : goal.returns-in-Some-2
returns-in-Some-2 g c =
    let Linked : Graph → Type 0 = λ h. are_linked h (slice_index h.ids c.args.index) c.own.inside.tree.father ≡ true in
    c.own_row.ensures
    ∙ father_row g.P.Application.app c.args.config.now c.lemma_is_graph.ensures.graph _ _ _
    (c.own.view_is ∙ c.requires.there) c.limits_of-k.ensures.bound _
    (subst Linked c.topology-topology.ensures c.in-Some-2.ensures.found.1)

pub returns-in-None : goal.returns-in-None
returns-in-None g c =
    let Stray : Graph → Type 0 = λ h. are_linked h (slice_index h.ids c.args.index) c.own.inside.tree.father ≡ false in
    c.own_row-in-None.ensures
    ∙ stray_row g.P.Application.app c.args.config.now c.lemma_is_graph.ensures.graph _ _ _
    (c.own.view_is ∙ c.requires.there) c.limits_of-k.ensures.bound
    (subst Stray c.topology-topology.ensures c.in-None.ensures.none)
