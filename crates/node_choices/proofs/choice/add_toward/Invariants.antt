-- The ways toward the neighbours before the index were added, where they are allowed.
use Rattle.std.proofs.Common.{◌≡◌, ◌++◌, Some, filter, map, take}
use Rattle.reset_model.specs.declared.event.Event.TheVariants.{Act}
use Rattle.node_choices.specs.Choice.{is_allowed}
use Rattle.node_choices.proofs.choice.add_toward.Given as goal

abbrev pub invariant-loop-other : goal.invariant-loop-other
invariant-loop-other g l =
    l.allowed.items
    ≡ l.initial.allowed.items
    ++ filter (is_allowed g.P.Application.app l.sight)
    (map (λ n. Act l.sight.id l.case (Some n.id)) (take l.other-index l.other-items))
