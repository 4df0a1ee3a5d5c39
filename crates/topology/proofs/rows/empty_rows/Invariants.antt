use Rattle.std.proofs.Common.{◌≡◌, map, replicate, []}
use Rattle.topology.proofs.rows.empty_rows.Given as goal

abbrev pub invariant-loop-index : goal.invariant-loop-index
invariant-loop-index l = map (λ row. row.items) l.near.items ≡ replicate l._index []
