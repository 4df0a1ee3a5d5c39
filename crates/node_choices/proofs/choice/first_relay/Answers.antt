use Rattle.std.proofs.Common.{◌≡◌, ◌==◌, ◌∙◌, Some, ap, filter, find, map, sym}
use Rattle.std.proofs.lemmas.Bool.{eq-eqb}
use Rattle.reset_model.specs.declared.event.Event.TheVariants.{Relay}
use Rattle.node_choices.specs.Choice.{is_allowed}
use Rattle.node_choices.proofs.Trying.{passed_found}
use Rattle.node_choices.proofs.choice.first_relay.Goals as goal

pub returns-then-branch : goal.returns-then-branch
returns-then-branch g c =
    let v = c.args.sight.now in
    let test = is_allowed g.P.Application.app v in
    let other = c.other-item.result in
    let event : Relay c.id-at.result c.other.inside.id ≡ Relay v.id other.id =
    ap (λ i. Relay i c.other.inside.id) c.id-at.ensures ∙ ap (λ n. Relay v.id n.id) c.other.view_is in
    ap (λ e. Some e) event
    ∙ passed_found test (λ n. Relay v.id n.id) (λ n. n.tree.father == v.id) c.neighbours-other-items.result.now
    c.loop-other.other-index other _ c.loop-other-test.true c.other-item.is
    (eq-eqb _ _ (sym (ap (λ n. n.tree.father) c.other.view_is) ∙ c.if-other-at.true ∙ c.id-at.ensures))
    (sym (ap test event) ∙ sym c.in_ok-allows.ensures ∙ c.if-branch.true) c.loop-other.invariant
    ∙ ap (λ ns. find test (map (λ n. Relay v.id n.id) (filter (λ n. n.tree.father == v.id) ns)))
    c.neighbours-other-items.ensures
