use Rattle.std.proofs.Common.{◌++◌, filter, ap, ◌∙◌}
use Rattle.node_choices.specs.Choice.{is_allowed}
use Rattle.node_choices.proofs.Choices.{actions, adoptions, own_asked, own_first, relays}
use Rattle.node_choices.proofs.Trying.{all_added}
use Rattle.node_choices.proofs.choice.allowed_in.Goals as goal

pub returns : goal.returns
returns g c =
    let app = g.P.Application.app in
    let v = c.args.sight.now in
    let test = is_allowed app v in
    let at = c.id-at.result in
    all_added test (own_first at) (adoptions v.id v.near) (own_asked at) (relays v.id v.near) (actions app v)
    _ _ _ _ _ _ c.new-allowed.ensures.items c.in_ok-add_allowed.ensures c.in_ok-add_adoptions.ensures
    c.in_ok-add_allowed-2.ensures c.in_ok-add_relays.ensures c.in_ok-add_actions.ensures
    ∙ ap (λ i. filter test (own_first i ++ adoptions v.id v.near ++ own_asked i ++ relays v.id v.near ++ actions app v))
    c.id-at.ensures
