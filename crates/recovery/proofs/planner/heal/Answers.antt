use Rattle.std.proofs.Common.{◌≡◌, ◌+◌, ◌*◌, ◌≤◌, ap, subst, ◌∙◌, length, List, arith}
use Rattle.topology.specs.Graph.{node_bound}
use Rattle.reset_model.specs.Configuration.{Configuration}
use Rattle.reset_model.specs.declared.event.Event.{Event}
use Rattle.recovery.specs.Drafts.{Leads}
use Rattle.recovery.proofs.Healing.{heals}
use Rattle.recovery.proofs.planner.heal.Goals as goal

pub returns : goal.returns
returns g c =
    let app = g.P.Application.app in
    let now = c.args.config.now in
    let es = c.into_parts.result.0.items in
    let left = c.into_parts.result.1 in
    let P : Configuration g.row.P-Local.Denot → Type 0 = λ o. Leads app o es left in
    let opened = ap (λ d. d.opening) c.open-draft.ensures ∙ c.in_ok-copy.ensures in
    let began = ap (λ d. d.config) c.open-draft.ensures ∙ c.in_ok-copy.ensures in
    let none : length c.open-draft.result.events ≡ 0 = ap (λ d. length d.events) c.open-draft.ensures in
    let Q : Configuration g.row.P-Local.Denot → Type 0 =
    λ k. length c.heal_draft.new.draft.events
    ≤ length c.open-draft.result.events + length k.graph.nodes * (node_bound k.graph + 4) in
    let few = subst Q began c.in_ok-heal_draft.ensures.few in
    let same = ap (λ (l : List Event). length l) c.into_parts.ensures.events in
    heals app es now left
    (subst P (c.in_ok-heal_draft.ensures.opening ∙ opened) c.into_parts.ensures.leads)
    c.into_parts.ensures.only (omega (arith, few, none, same))
    (rw c.into_parts.ensures.config c.in_ok-heal_draft.ensures.sound)
