-- The adoptions of the neighbours before the index were added, where they are allowed.
use Rattle.std.proofs.Common.{◌≡◌, ◌++◌, filter, map, take}
use Rattle.reset_model.specs.declared.event.Event.TheVariants.{Adopt}
use Rattle.node_choices.specs.Choice.{is_allowed}
use Rattle.node_choices.proofs.choice.add_adoptions.Given as goal

abbrev pub invariant-loop-other : goal.invariant-loop-other
invariant-loop-other g l =
    l.allowed.items
    ≡ l.initial.allowed.items
    ++ filter (is_allowed g.P.Application.app l.sight) (map (λ n. Adopt l.sight.id n.id) (take l.other-index l.other-items))
