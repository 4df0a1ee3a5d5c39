-- What is left to try gives what all give.
use Rattle.std.proofs.Common.{◌≡◌, drop, find}
use Rattle.node_choices.specs.Choice.{is_allowed}
use Rattle.node_choices.proofs.choice.first_allowed.Given as goal

abbrev pub invariant-loop-event : goal.invariant-loop-event
invariant-loop-event g l =
    let test = is_allowed g.P.Application.app l.sight in
    find test (drop l.event-index l.events) ≡ find test l.events
