-- The items before the index were written.
use Rattle.std.proofs.Common.{take, ◌∷◌}
use Rattle.std.specs.List.{flat_map}
use Rattle.std.specs.Io.KnownBytes.{Appends}
use Rattle.action_tables.proofs.list.put_more.Given as goal

abbrev pub invariant-loop-item : goal.invariant-loop-item
invariant-loop-item g l =
    Appends (g.W.Write.contents l.initial.out) (g.W.Write.contents l.out)
    (flat_map (λ x. 44 ∷ g.T.ListItem.text x) (take l.item-index l.items))
