use Rattle.std.proofs.Common.{◌≡◌, ◌+◌, ◌*◌, ◌≤◌, ℕ, ap, sym, subst, ◌∙◌, length, List, arith}
use Rattle.topology.specs.Graph.{IsNode}
use Rattle.reset_model.specs.Configuration.{Configuration}
use Rattle.reset_model.specs.declared.event.Event.{Event}
use Rattle.recovery.specs.Drafts.{Leads}
use Rattle.recovery.specs.Recovered.{IsRenewed}
use Rattle.recovery.proofs.Healing.{leads_steps}
use Rattle.recovery.proofs.planner.renew.Goals as goal

pub returns : goal.returns
returns g c =
    let app = g.P.Application.app in
    let now = c.args.healed in
    let es = c.into_parts.result.0.items in
    let left = c.into_parts.result.1 in
    let P : Configuration g.row.P-Local.Denot → Type 0 = λ o. Leads app o es left in
    let opened = ap (λ d. d.opening) c.open-draft.ensures in
    let began = ap (λ d. d.config) c.open-draft.ensures in
    let none : length c.open-draft.result.events ≡ 0 = ap (λ d. length d.events) c.open-draft.ensures in
    let Q : Configuration g.row.P-Local.Denot → Type 0 =
    λ k. length c.reset_all.new.draft.events
    ≤ length c.open-draft.result.events + 5 * length k.graph.nodes in
    let few = subst Q began c.in_ok-reset_all.ensures.count in
    let same = ap (λ (l : List Event). length l) c.into_parts.ensures.events in
    let Each : List Event → Configuration g.row.P-Local.Denot → Type 0 =
    λ l k. (i : ℕ) → IsNode k.graph i → IsRenewed app l k i in
    record {
      steps = leads_steps app es now left (subst P (c.in_ok-reset_all.ensures.opening ∙ opened) c.into_parts.ensures.leads);
      only = c.into_parts.ensures.only;
      few = omega (arith, few, none, same);
      sound = rw c.into_parts.ensures.config c.in_ok-reset_all.ensures.sound;
      each = subst (λ l. Each l left) (sym c.into_parts.ensures.events)
          (subst (λ k. Each c.reset_all.new.draft.events k) (sym c.into_parts.ensures.config)
          c.in_ok-reset_all.ensures.renewed);
    }
