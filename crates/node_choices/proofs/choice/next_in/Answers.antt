use Rattle.std.proofs.Common.{◌≡◌, ◌++◌, None, ◌∙◌, sym}
use Rattle.std.proofs.lemmas.Result.{IfOk-weaker}
use Rattle.node_choices.specs.Choice.{is_allowed, next_of}
use Rattle.node_choices.proofs.Choices.{actions, from_actions, from_tree, from_wave, of_tree, of_wave, tried}
use Rattle.node_choices.proofs.Trying.{first_some, two_lists}
use Rattle.node_choices.proofs.choice.next_in.Goals as goal

pub returns-in-Some : goal.returns-in-Some
returns-in-Some g c =
    let app = g.P.Application.app in
    let v = c.args.sight.now in
    first_some _ _ _ _ (sym c.in_ok-event.ensures ∙ c.in-Some.is)
    (two_lists (is_allowed app v) (of_tree app v) (of_wave app v ++ actions app v) (next_of app v) (from_tree app v))

pub returns-in-Some-2 : goal.returns-in-Some-2
returns-in-Some-2 g c =
    let app = g.P.Application.app in
    let v = c.args.sight.now in
    let tree : tried app v (of_tree app v) ≡ None = sym c.in_ok-event.ensures ∙ c.in_default.is in
    first_some _ _ _ _ (sym c.in_ok-event-2.ensures ∙ c.in-Some-2.is)
    (two_lists (is_allowed app v) (of_wave app v) (actions app v) (next_of app v) (from_wave app v tree))

pub returns : goal.returns
returns g c =
    let app = g.P.Application.app in
    let v = c.args.sight.now in
    let tree : tried app v (of_tree app v) ≡ None = sym c.in_ok-event.ensures ∙ c.in_default.is in
    let wave : tried app v (of_wave app v) ≡ None = sym c.in_ok-event-2.ensures ∙ c.in_default-2.is in
    IfOk-weaker c.action.result _ _ (λ event is. is ∙ from_actions app v tree wave) c.action.ensures
