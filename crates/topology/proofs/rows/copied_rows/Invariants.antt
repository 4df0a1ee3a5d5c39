use Rattle.std.proofs.Common.{◌≡◌, map, take}
use Rattle.topology.proofs.rows.copied_rows.Given as goal

-- the rows so far are copied
abbrev pub invariant-loop-row : goal.invariant-loop-row
invariant-loop-row l = map (λ row. row.items) l.copy.items ≡ map (λ row. row.items) (take l.row-index l.near)
