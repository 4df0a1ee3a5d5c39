use Rattle.std.proofs.Common.{◌≡◌, ◌==◌, drop}
use Rattle.std.specs.List.{find}
use Rattle.reset_model.proofs.neighbourhood.neighbour.Given as goal

-- the first that is left is the first of all
abbrev pub invariant-loop-other : goal.invariant-loop-other
invariant-loop-other g l = find (λ n. n.id == l.id) (drop l.other-index l.near) ≡ find (λ n. n.id == l.id) l.near
