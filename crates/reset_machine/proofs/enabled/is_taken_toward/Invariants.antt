use Rattle.std.proofs.Common.{◌≡◌, drop, is_ok}
use Rattle.reset_machine.specs.Place.{case_outcome_at}
use Rattle.reset_machine.proofs.CaseArguments.{any_near}
use Rattle.reset_machine.proofs.enabled.is_taken_toward.Given as goal

-- whether one of the neighbours that are left will do is whether one of all of them will
abbrev pub invariant-loop-near : goal.invariant-loop-near
invariant-loop-near g l =
    let some =
    any_near l.place.config.graph.ids (λ with. is_ok (case_outcome_at g.P.Application.app l.place l.case with)) in
    some (drop l.near-index l.near-items) ≡ some l.near-items
