use Rattle.reset_model.proofs.RunSteps.{run_steps}
use Rattle.reset_model.proofs.run_laws.runs_are_steps.Goals as goal

pub returns : goal.returns
returns g c = λ d d' es ds graph counted sound run.
    let taken = run_steps g.P.Application.app es ds d d' run in
    record {
      taken = taken.0;
      events = taken.1;
      steps = taken.2;
      headline = c.headline.ensures d d' taken.0 graph counted sound taken.2;
      ends = λ i node. c.waves_end.ensures d d' taken.0 i graph counted sound node taken.2;
    }
