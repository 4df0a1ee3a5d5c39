use Rattle.std.proofs.Common.{◌++◌, slice_index, ap, ◌∙◌}
use Rattle.topology.specs.Graph.{node_bound}
use Rattle.reset_model.specs.View.{near_of}
use Rattle.link_predicates.specs.Faults.{link_faults}
use Rattle.link_predicates.proofs.NodeFaults.{end_found}
use Rattle.link_predicates.proofs.check.check_link.Goals as goal

pub returns : goal.returns
returns g c =
    let app = g.P.Application.app in
    let config = c.args.config.now in
    let ids = config.graph.ids in
    let there = link_faults app (node_bound config.graph) config.modulus
    (near_of app config (slice_index ids c.in-Some.index)) (near_of app config (slice_index ids c.in-Some.near)) in
    c.in_ok-add_end.ensures ∙ ap (λ l. l ++ there) c.new-found.ensures.items
    ∙ end_found app config c.args.at c.args.other c.in-Some.index c.in-Some.near c.in-Some.ensures.found
