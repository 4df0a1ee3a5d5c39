use Rattle.node_threads.specs.Stepped.{stretch_since}
use Rattle.node_threads.proofs.Stepping.{continued_stretch}
use Rattle.node_threads.proofs.laws.threads_take_steps.Goals as goal

pub returns : goal.returns
returns g c =
    λ first b own is sound.
    let at = continued_stretch g.P.Application.app g.P.Application.from_text first b own is in
    let s = stretch_since first b at.0 in
    record {
      events = at.0;
      stretch = at.1;
      steps = c.books_tell_steps.ensures.steps b s is.book at.1 sound;
      reports = c.books_tell_steps.ensures.reports b s is.book at.1 sound;
    }
