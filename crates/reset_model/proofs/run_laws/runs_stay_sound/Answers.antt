use Rattle.reset_model.proofs.Headlines.{steps_kept}
use Rattle.reset_model.proofs.RunSteps.{run_steps}
use Rattle.reset_model.proofs.run_laws.runs_stay_sound.Goals as goal

pub returns : goal.returns
returns g c = λ d d' es ds graph counted sound run.
    let app = g.P.Application.app in
    let taken = run_steps app es ds d d' run in
    let kept = steps_kept app taken.0 d d' graph counted sound taken.2 in
    (kept.graph, kept.modulus, kept.sound)
