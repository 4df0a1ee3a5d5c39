use Rattle.applications.specs.Meaning.{meaning_of}
use Rattle.script_replay.specs.Output.{answers}
use Rattle.script_replay.specs.Stretches.{event_answers, events_of_lines}
use Rattle.script_replay.proofs.Stretches.{lines_make_run}
use Rattle.script_replay.proofs.laws.stretches_are_runs.Goals as goal

pub returns-clause-run : goal.returns-clause-run
returns-clause-run g c =
    lines_make_run
    (meaning_of g.P.Application.app g.P.Application.text g.P.Application.from_text g.P.Application.names
    g.P.Invariant.counts)

pub returns-clause-lawful : goal.returns-clause-lawful
returns-clause-lawful g c = λ d n lines calm graph shaped sound.
    let m =
    meaning_of g.P.Application.app g.P.Application.text g.P.Application.from_text g.P.Application.names
    g.P.Invariant.counts in
    let es = events_of_lines m d n lines in
    let ds = event_answers m.app d es in
    let last = (answers m d n lines).config in
    let run = lines_make_run m d n lines calm graph shaped in
    c.runs_are_steps.ensures d last es ds graph shaped.modulus sound run
