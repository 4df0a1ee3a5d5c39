use Rattle.std.proofs.Common.{◌≡◌, drop}
use Rattle.app_interface.specs.Views.{seen_at, seen_values}
use Rattle.app_interface.proofs.view.seen_at.Given as goal

-- the neighbour is looked for among those that are left
abbrev pub invariant-loop-near : goal.invariant-loop-near
invariant-loop-near g l = seen_at l.j (seen_values (drop l.near-index l.seen)) ≡ seen_at l.j (seen_values l.seen)
