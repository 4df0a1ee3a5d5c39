use Rattle.std.proofs.Common.{ap, ◌∙◌}
use Rattle.topology.specs.Graph.{Graph}
use Rattle.scheduler.specs.Driven.{drawn_of, or_all}
use Rattle.scheduler.proofs.Steps.{event_found, no_event_found}
use Rattle.scheduler.proofs.drawn.drawn_event.Goals as goal

pub returns-in_ok-events-in-Some : goal.returns-in_ok-events-in-Some
returns-in_ok-events-in-Some g c =
    let ready = c.args.ready.now in
    event_found g.P.Application.app c.args.config.now ready c.args.for_node c.args.for_event c.drawn_node.result
    c.in-Some.at c.deref.result.now c.drawn_of.result
    (c.drawn_node.ensures ∙ ap (λ (h : Graph). drawn_of (or_all h.nodes ready) c.args.for_node) c.topology.ensures)
    c.in-Some.is (c.deref.ensures.value ∙ c.in_ok-events-in-Some.ensures) c.drawn_of.ensures

pub returns-in-None : goal.returns-in-None
returns-in-None g c =
    let ready = c.args.ready.now in
    no_event_found g.P.Application.app c.args.config.now ready c.args.for_node c.args.for_event c.drawn_node.result
    (c.drawn_node.ensures ∙ ap (λ (h : Graph). drawn_of (or_all h.nodes ready) c.args.for_node) c.topology.ensures)
    c.in-None.is
