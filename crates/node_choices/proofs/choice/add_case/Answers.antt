use Rattle.std.proofs.Common.{◌≡◌, ◌++◌, ◌∙◌, List, OnOk, Some, ap, append-nil, refl, subst, sym}
use Rattle.reset_model.specs.declared.event.Event.{Event}
use Rattle.node_choices.proofs.Fitting.{names_none, none_passes, passing_alone}
use Rattle.node_choices.proofs.choice.add_case.Goals as goal

pub returns-in-None : goal.returns-in-None
returns-in-None g c =
    let items = c.args.allowed.now.items in
    sym (append-nil items)
    ∙ ap (λ l. items ++ l)
    (none_passes g.P.Application.app c.args.sight.now c.args.case c.reads.result c.reads.ensures c.in-None.is)

pub returns-in-Some-Alone : goal.returns-in-Some-Alone
returns-in-Some-Alone g c =
    let app = g.P.Application.app in
    let v = c.args.sight.now in
    let Adds : List Event → Type 0 =
    λ es. OnOk c.add_alone.result (c.add_alone.new.allowed.items ≡ c.args.allowed.now.items ++ es) in
    subst Adds
    (passing_alone app v c.args.case (names_none app v c.args.case c.reads.result _ c.reads.ensures
    (c.in-Some-Alone.is ∙ ap (λ r. Some r) c.in-Some-Alone.field-0-is) refl)) c.add_alone.ensures

pub returns-in-Some-All : goal.returns-in-Some-All
returns-in-Some-All g c =
    let app = g.P.Application.app in
    let v = c.args.sight.now in
    let Adds : List Event → Type 0 =
    λ es. OnOk c.add_alone-in-Some-All.result (c.add_alone-in-Some-All.new.allowed.items ≡ c.args.allowed.now.items ++ es) in
    subst Adds
    (passing_alone app v c.args.case (names_none app v c.args.case c.reads.result _ c.reads.ensures
    (c.in-Some-All.is ∙ ap (λ r. Some r) c.in-Some-All.field-0-is) refl)) c.add_alone-in-Some-All.ensures
