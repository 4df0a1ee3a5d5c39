-- What is left to try gives what all give.
use Rattle.std.proofs.Common.{◌≡◌, drop, find, map}
use Rattle.reset_model.specs.declared.event.Event.TheVariants.{Adopt}
use Rattle.node_choices.specs.Choice.{is_allowed}
use Rattle.node_choices.proofs.choice.first_adoption.Given as goal

abbrev pub invariant-loop-other : goal.invariant-loop-other
invariant-loop-other g l =
    let test = is_allowed g.P.Application.app l.sight in
    find test (map (λ n. Adopt l.sight.id n.id) (drop l.other-index l.other-items))
    ≡ find test (map (λ n. Adopt l.sight.id n.id) l.other-items)
