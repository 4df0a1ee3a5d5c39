use Rattle.std.proofs.Common.{length, map}
use Rattle.topology.proofs.Isolating.{Isolating}
use Rattle.topology.proofs.rows.isolate.Given as goal

abbrev pub invariant-loop-other : goal.invariant-loop-other
invariant-loop-other l =
    Isolating (length l.initial.near) (map (λ row. row.items) l.initial.near) l.index l.other-index
    (map (λ row. row.items) l.near)
