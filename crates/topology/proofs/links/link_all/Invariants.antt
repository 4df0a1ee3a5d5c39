use Rattle.std.proofs.Common.{map, take}
use Rattle.topology.specs.Building.{AreJoined}
use Rattle.topology.proofs.links.link_all.Given as goal

abbrev pub invariant-loop-a : goal.invariant-loop-a
invariant-loop-a l = AreJoined l.ids.ids (take l.a-index l.links) (map (λ row. row.items) l.near)
