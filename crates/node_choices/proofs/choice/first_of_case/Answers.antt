use Rattle.std.proofs.Common.{◌≡◌, ◌∙◌, IfOk, Option, Some, ap, refl, subst}
use Rattle.reset_model.specs.declared.event.Event.{Event}
use Rattle.node_choices.proofs.Fitting.{found_alone, names_none, none_is_found}
use Rattle.node_choices.proofs.choice.first_of_case.Goals as goal

pub returns-in-None : goal.returns-in-None
returns-in-None g c =
    none_is_found g.P.Application.app c.args.sight.now c.args.case c.reads.result c.reads.ensures c.in-None.is

pub returns-in-Some-Alone : goal.returns-in-Some-Alone
returns-in-Some-Alone g c =
    let app = g.P.Application.app in
    let v = c.args.sight.now in
    let Finds : Option Event → Type 0 = λ o. IfOk c.first_alone.result (λ event. event ≡ o) in
    subst Finds
    (found_alone app v c.args.case (names_none app v c.args.case c.reads.result _ c.reads.ensures
    (c.in-Some-Alone.is ∙ ap (λ r. Some r) c.in-Some-Alone.field-0-is) refl)) c.first_alone.ensures

pub returns-in-Some-All : goal.returns-in-Some-All
returns-in-Some-All g c =
    let app = g.P.Application.app in
    let v = c.args.sight.now in
    let Finds : Option Event → Type 0 = λ o. IfOk c.first_alone-in-Some-All.result (λ event. event ≡ o) in
    subst Finds
    (found_alone app v c.args.case (names_none app v c.args.case c.reads.result _ c.reads.ensures
    (c.in-Some-All.is ∙ ap (λ r. Some r) c.in-Some-All.field-0-is) refl)) c.first_alone-in-Some-All.ensures
