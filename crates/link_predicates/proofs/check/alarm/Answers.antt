use Rattle.std.proofs.Common.{ap, ◌∙◌}
use Rattle.topology.specs.Graph.{IsNode}
use Rattle.link_predicates.specs.Faults.{alarm_of}
use Rattle.link_predicates.proofs.NodeFaults.{found_told, none_told}
use Rattle.link_predicates.proofs.check.alarm.Goals as goal

pub returns-in-Some-clause-found : goal.returns-in-Some-clause-found
returns-in-Some-clause-found g c =
    let alarm_at = alarm_of g.P.Application.app c.args.config.now in
    let found = c.in-Some.ensures.found in
    found_told c.alarm_at.result (alarm_at c.args.at) (c.alarm_at.ensures ∙ ap alarm_at found.2) found.0

pub returns-in-Some-clause-none : goal.returns-in-Some-clause-none
returns-in-Some-clause-none g c =
    let config = c.args.config.now in
    let alarm_at = alarm_of g.P.Application.app config in
    none_told (IsNode config.graph c.args.at) c.alarm_at.result (alarm_at c.args.at)
    (c.alarm_at.ensures ∙ ap alarm_at c.in-Some.ensures.found.2)

pub returns-in-None-clause-none : goal.returns-in-None-clause-none
returns-in-None-clause-none g c = λ node. absurd (c.in-None.ensures.none node)
