use Rattle.applications.specs.Meaning.{meaning_of}
use Rattle.reset_service.proofs.KeptRuns.{tells_run}
use Rattle.reset_service.proofs.laws.kept_histories_are_runs.Goals as goal

pub returns : goal.returns
returns g c =
    let m =
    meaning_of g.P.Application.app g.P.Application.text g.P.Application.from_text g.P.Application.names
    g.P.Invariant.counts in
    λ h modulus history line graph. tells_run m g.P.Application.Inv
    c.reports_are_completions.ensures.exactly c.reports_are_true.ensures c.stretches_are_steps.ensures
    c.booted_invariants_hold.ensures h graph modulus history line
