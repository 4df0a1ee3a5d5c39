use Rattle.std.proofs.Common.{◌++◌, filter, ap, arith}
use Rattle.std.specs.List.{flat_map}
use Rattle.reset_machine.proofs.CaseArguments.{all_from_1}
use Rattle.node_choices.specs.Choice.{case_events, is_allowed}
use Rattle.node_choices.proofs.Trying.{case_added, cases_added}
use Rattle.node_choices.proofs.choice.add_actions.Goals as goal

pub loop-case-init : goal.loop-case-init
loop-case-init g c =
    let test = is_allowed g.P.Application.app c.args.sight.now in
    ap (λ ns. c.args.allowed.now.items ++ filter test (flat_map (case_events c.args.sight.now) ns)) all_from_1

pub loop-case-preserved : goal.loop-case-preserved
loop-case-preserved g c =
    let sight = c.args.sight.now in
    case_added (is_allowed g.P.Application.app sight) (case_events sight) c.loop-case.case c.loop-case.allowed.items _ _
    (omega arith) c.in_ok-add_case.ensures c.loop-case.invariant

pub returns : goal.returns
returns g c =
    let sight = c.args.sight.now in
    cases_added (is_allowed g.P.Application.app sight) (case_events sight) c.loop-case.case _ _ (omega arith)
    c.loop-case.invariant
