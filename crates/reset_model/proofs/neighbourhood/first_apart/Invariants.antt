use Rattle.std.proofs.Common.{◌≡◌, ◌==◌, not, drop, filter}
use Rattle.std.specs.List.{find}
use Rattle.reset_model.specs.Actions.{reads_near}
use Rattle.reset_model.proofs.neighbourhood.first_apart.Given as goal

-- the first of those that are left is the first of all
abbrev pub invariant-loop-other : goal.invariant-loop-other
invariant-loop-other g l =
    find (λ n. not (n.wave.session == l.session))
    (filter (λ n. reads_near l.reads l.with n.id) (drop l.other-index l.near))
    ≡ find (λ n. not (n.wave.session == l.session)) (filter (λ n. reads_near l.reads l.with n.id) l.near)
