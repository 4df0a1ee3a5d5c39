-- What is left to try gives what all give.
use Rattle.std.proofs.Common.{◌≡◌, Some, drop, find, map}
use Rattle.reset_model.specs.declared.event.Event.TheVariants.{Act}
use Rattle.node_choices.specs.Choice.{is_allowed}
use Rattle.node_choices.proofs.choice.first_toward.Given as goal

abbrev pub invariant-loop-other : goal.invariant-loop-other
invariant-loop-other g l =
    let test = is_allowed g.P.Application.app l.sight in
    find test (map (λ n. Act l.sight.id l.case (Some n.id)) (drop l.other-index l.other-items))
    ≡ find test (map (λ n. Act l.sight.id l.case (Some n.id)) l.other-items)
