use Rattle.std.proofs.Common.{◌≡◌, ◌+◌, drop, find, flat_map, map, slice_index, subst, sym, ap, ap₂, ◌∙◌}
use Rattle.std.specs.Option.{option_or}
use Rattle.std.proofs.lemmas.List.{at_drop_all}
use Rattle.topology.specs.Graph.{Graph, neighbours_of, node_bound}
use Rattle.reset_machine.proofs.NearSeen.{at_indexes}
use Rattle.reset_model.specs.View.{Neighbour, near_of}
use Rattle.link_predicates.specs.Faults.{is_of_app, link_faults}
use Rattle.link_predicates.proofs.NodeFaults.{alarm_is, found_first, found_later, found_rest}
use Rattle.link_predicates.proofs.check.alarm_at.Goals as goal

pub returns-then-is_some : goal.returns-then-is_some
returns-then-is_some g c =
    let app = g.P.Application.app in
    let config = c.args.config.now in
    let graph = config.graph in
    let near = c.neighbours-near-items.result.now in
    let k = c.loop-near.near-index in
    let i = slice_index graph.ids c.args.index in
    let limits = c.limits_of-limits.result in
    let links = link_faults app limits.k limits.modulus c.end_at-own.result in
    let rest = find is_of_app (flat_map links (at_indexes (near_of app config) graph.ids (drop (k + 1) near))) in
    let fault =
    c.link_alarm-fault.ensures
    ∙ ap (λ (n : Neighbour g.row.P-Local.Denot). find is_of_app (links n)) c.end_at.ensures in
    let some = sym c.is_some.ensures ∙ c.if-is_some.true in
    let Lists : Graph → Type 0 =
    λ h. map (λ n. slice_index h.ids n) near ≡ neighbours_of h (slice_index h.ids c.args.index) in
    sym (found_later is_of_app (near_of app config) links graph.ids near k c.loop-near-test.true
    ∙ ap (λ o. option_or o rest) (sym fault) ∙ found_first c.link_alarm-fault.result rest some)
    ∙ c.loop-near.invariant
    ∙ ap₂ (λ K m. find is_of_app
    (flat_map (link_faults app K m c.end_at-own.result) (at_indexes (near_of app config) graph.ids near)))
    c.limits_of-limits.ensures.bound c.limits_of-limits.ensures.modulus
    ∙ ap (λ (n : Neighbour g.row.P-Local.Denot). find is_of_app
    (flat_map (link_faults app (node_bound graph) config.modulus n) (at_indexes (near_of app config) graph.ids near)))
    c.end_at-own.ensures
    ∙ alarm_is app config i near (subst Lists c.topology.ensures c.neighbours-near-items.ensures.ids)

pub loop-near-preserved : goal.loop-near-preserved
loop-near-preserved g c =
    let app = g.P.Application.app in
    let config = c.args.config.now in
    let ids = config.graph.ids in
    let near = c.neighbours-near-items.result.now in
    let k = c.loop-near.near-index in
    let limits = c.limits_of-limits.result in
    let links = link_faults app limits.k limits.modulus c.end_at-own.result in
    let rest = find is_of_app (flat_map links (at_indexes (near_of app config) ids (drop (k + 1) near))) in
    let fault =
    c.link_alarm-fault.ensures
    ∙ ap (λ (n : Neighbour g.row.P-Local.Denot). find is_of_app (links n)) c.end_at.ensures in
    let none = sym c.is_some.ensures ∙ c.if-is_some.false in
    sym (found_later is_of_app (near_of app config) links ids near k c.loop-near-test.true
    ∙ ap (λ o. option_or o rest) (sym fault) ∙ found_rest c.link_alarm-fault.result rest none)
    ∙ c.loop-near.invariant

pub returns : goal.returns
returns g c =
    let app = g.P.Application.app in
    let config = c.args.config.now in
    let graph = config.graph in
    let near = c.neighbours-near-items.result.now in
    let i = slice_index graph.ids c.args.index in
    let limits = c.limits_of-limits.result in
    let links = link_faults app limits.k limits.modulus c.end_at-own.result in
    let Lists : Graph → Type 0 =
    λ h. map (λ n. slice_index h.ids n) near ≡ neighbours_of h (slice_index h.ids c.args.index) in
    sym (at_drop_all (λ left. find is_of_app (flat_map links (at_indexes (near_of app config) graph.ids left))) near
    c.loop-near.near-index c.loop-near-test.false)
    ∙ c.loop-near.invariant
    ∙ ap₂ (λ K m. find is_of_app
    (flat_map (link_faults app K m c.end_at-own.result) (at_indexes (near_of app config) graph.ids near)))
    c.limits_of-limits.ensures.bound c.limits_of-limits.ensures.modulus
    ∙ ap (λ (n : Neighbour g.row.P-Local.Denot). find is_of_app
    (flat_map (link_faults app (node_bound graph) config.modulus n) (at_indexes (near_of app config) graph.ids near)))
    c.end_at-own.ensures
    ∙ alarm_is app config i near (subst Lists c.topology.ensures c.neighbours-near-items.ensures.ids)
