-- What is left to try gives what all give.
use Rattle.std.proofs.Common.{◌≡◌, ◌==◌, drop, filter, find, map}
use Rattle.reset_model.specs.declared.event.Event.TheVariants.{Relay}
use Rattle.node_choices.specs.Choice.{is_allowed}
use Rattle.node_choices.proofs.choice.first_relay.Given as goal

abbrev pub invariant-loop-other : goal.invariant-loop-other
invariant-loop-other g l =
    let test = is_allowed g.P.Application.app l.sight in
    find test (map (λ n. Relay l.sight.id n.id) (filter (λ n. n.tree.father == l.sight.id) (drop l.other-index l.other-items)))
    ≡ find test (map (λ n. Relay l.sight.id n.id) (filter (λ n. n.tree.father == l.sight.id) l.other-items))
