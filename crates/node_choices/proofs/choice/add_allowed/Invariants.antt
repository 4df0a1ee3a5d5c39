-- Those of the events before the index that the view allows were added.
use Rattle.std.proofs.Common.{◌≡◌, ◌++◌, filter, take}
use Rattle.node_choices.specs.Choice.{is_allowed}
use Rattle.node_choices.proofs.choice.add_allowed.Given as goal

abbrev pub invariant-loop-event : goal.invariant-loop-event
invariant-loop-event g l =
    l.allowed.items
    ≡ l.initial.allowed.items ++ filter (is_allowed g.P.Application.app l.sight) (take l.event-index l.events)
