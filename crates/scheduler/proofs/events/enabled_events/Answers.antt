use Rattle.std.proofs.Common.{rules, ◌≡◌, List, IfOk, subst, sym, ap, ◌∙◌}
use Rattle.reset_model.specs.declared.event.Event.{Event}
use Rattle.topology.specs.Graph.{IsNode}
use Rattle.node_choices.specs.Choice.{allowed_events}
use Rattle.scheduler.proofs.EnabledEvents.{enabled_nowhere, enabled_there}
use Rattle.scheduler.proofs.events.enabled_events.Goals as goal

pub returns-in-Ok : goal.returns-in-Ok
returns-in-Ok g c =
    let app = g.P.Application.app in
    let seen = c.in-Ok.ensures.ok in
    let Tells : List Event → Type 0 = λ es. IfOk c.allowed_events.result (λ events. events.items ≡ es) in
    subst Tells (ap (allowed_events app) seen.1 ∙ sym (enabled_there app c.args.config.now c.args.at seen.0))
    c.allowed_events.ensures

pub returns-in-Err : goal.returns-in-Err
returns-in-Err g c =
    let strange : IsNode c.args.config.now.graph c.args.at → ⊥ = search rules in
    c.new.ensures.items ∙ sym (enabled_nowhere g.P.Application.app c.args.config.now c.args.at strange)
