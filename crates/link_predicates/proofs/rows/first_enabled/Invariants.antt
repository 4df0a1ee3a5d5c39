use Rattle.std.proofs.Common.{◌≡◌, drop}
use Rattle.link_predicates.specs.Faults.{first_enabled}
use Rattle.link_predicates.proofs.rows.first_enabled.Given as goal

-- the first is looked for among the rows that are left
abbrev pub invariant-loop-row : goal.invariant-loop-row
invariant-loop-row l = first_enabled (drop l.row-index l.rows) l.enabled ≡ first_enabled l.rows l.enabled
