use Rattle.std.proofs.Common.{find, ap, sym, ◌∙◌, arith}
use Rattle.std.specs.List.{flat_map}
use Rattle.reset_machine.proofs.CaseArguments.{all_from_1}
use Rattle.node_choices.specs.Choice.{case_events, is_allowed}
use Rattle.node_choices.proofs.Trying.{case_next, cases_done, first_none, first_some}
use Rattle.node_choices.proofs.choice.action.Goals as goal

pub loop-case-init : goal.loop-case-init
loop-case-init g c =
    let test = is_allowed g.P.Application.app c.args.sight.now in
    ap (λ ns. find test (flat_map (case_events c.args.sight.now) ns)) all_from_1

pub loop-case-preserved : goal.loop-case-preserved
loop-case-preserved g c =
    let sight = c.args.sight.now in
    first_none _ _ _ (sym c.in_ok-event.ensures ∙ c.in_default.is)
    (case_next (is_allowed g.P.Application.app sight) (case_events sight) c.loop-case.case _ (omega arith)
    c.loop-case.invariant)

pub returns-in-Some : goal.returns-in-Some
returns-in-Some g c =
    let sight = c.args.sight.now in
    first_some _ _ _ _ (sym c.in_ok-event.ensures ∙ c.in-Some.is)
    (case_next (is_allowed g.P.Application.app sight) (case_events sight) c.loop-case.case _ (omega arith)
    c.loop-case.invariant)

pub returns : goal.returns
returns g c =
    let sight = c.args.sight.now in
    cases_done (is_allowed g.P.Application.app sight) (case_events sight) c.loop-case.case _ (omega arith)
    c.loop-case.invariant
