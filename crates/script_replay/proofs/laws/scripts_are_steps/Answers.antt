use Rattle.reset_model.proofs.RunSteps.{boot_is_ready}
use Rattle.applications.specs.Meaning.{meaning_of}
use Rattle.script_replay.specs.Output.{answers}
use Rattle.script_replay.specs.Stretches.{event_answers, events_of_lines}
use Rattle.script_replay.proofs.Stretches.{lines_make_run}
use Rattle.script_replay.proofs.laws.scripts_are_steps.Goals as goal

pub returns : goal.returns
returns g c = λ h modulus d lines graph counted boot calm.
    let m =
    meaning_of g.P.Application.app g.P.Application.text g.P.Application.from_text g.P.Application.names
    g.P.Invariant.counts in
    let es = events_of_lines m d 1 lines in
    let ready = boot_is_ready m.app h modulus d graph counted boot in
    c.runs_are_steps.ensures d (answers m d 1 lines).config es (event_answers m.app d es) ready.0 ready.1.modulus
    ready.2 (lines_make_run m d 1 lines calm ready.0 ready.1)
