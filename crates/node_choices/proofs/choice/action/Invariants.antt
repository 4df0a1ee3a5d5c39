-- What is left to try gives what all give.
use Rattle.std.proofs.Common.{◌≡◌, find}
use Rattle.std.specs.List.{flat_map}
use Rattle.action_tables.specs.Numbers.{all_cases}
use Rattle.reset_machine.proofs.CaseArguments.{cases_from}
use Rattle.node_choices.specs.Choice.{case_events, is_allowed}
use Rattle.node_choices.proofs.choice.action.Given as goal

abbrev pub invariant-loop-case : goal.invariant-loop-case
invariant-loop-case g l =
    let test = is_allowed g.P.Application.app l.sight in
    find test (flat_map (case_events l.sight) (cases_from l.case))
    ≡ find test (flat_map (case_events l.sight) all_cases)
