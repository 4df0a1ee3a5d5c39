use Rattle.history.proofs.StretchRuns.{all_taken, here_network}
use Rattle.history.proofs.stretches.stretches_are_steps.Goals as goal

pub returns : goal.returns
returns g c = λ opening es s graph shaped is sound.
    let app = g.P.Application.app in
    let from_text = g.P.Application.from_text in
    let here = here_network app from_text opening (record { graph = graph; shaped = shaped }) es s is sound in
    let counted = here.shaped.modulus in
    let done = all_taken app from_text s.events s.here s.left here is.ends in
    record {
      taken = done.taken;
      events = done.same;
      steps = done.steps;
      headline = c.headline.ensures s.here s.left done.taken here.graph counted sound done.steps;
      ends = λ i node. c.waves_end.ensures s.here s.left done.taken i here.graph counted sound node done.steps;
    }
