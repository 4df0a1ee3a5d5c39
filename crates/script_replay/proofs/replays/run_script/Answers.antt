use Rattle.std.proofs.Common.{Err}
use Rattle.applications.specs.Meaning.{meaning_of}
use Rattle.script_replay.specs.Lines.{lines_of}
use Rattle.script_replay.specs.Output.{answers}
use Rattle.script_replay.proofs.Runs.{ended_run, prefix_for, short_output}
use Rattle.script_replay.proofs.replays.run_script.Goals as goal

pub returns-in-Ok-clause-leaves : goal.returns-in-Ok-clause-leaves
returns-in-Ok-clause-leaves g c =
    let m =
    meaning_of g.P.Application.app g.P.Application.text g.P.Application.from_text g.P.Application.names
    g.P.Invariant.counts in
    short_output m c.args.purpose c.args.config.now c.args.script.now _ _ c.end_run.result c.if-script-gt-MAX_TEXT.false
    (ended_run m c.args.purpose (answers m c.args.config.now 1 (lines_of c.args.script.now)) c.answer_lines.new.config _ _ _
    c.in-Ok.answered c.end_run.result
    c.in-Ok.ensures.leaves c.in-Ok.ensures.config c.end_run.ensures.ok c.end_run.ensures.err c.end_run.ensures.stop)

pub returns-in-Err-clause-leaves : goal.returns-in-Err-clause-leaves
returns-in-Err-clause-leaves g c =
    let m =
    meaning_of g.P.Application.app g.P.Application.text g.P.Application.from_text g.P.Application.names
    g.P.Invariant.counts in
    short_output m c.args.purpose c.args.config.now c.args.script.now (g.W.Write.contents c.args.out.now)
    (g.W.Write.contents c.answer_lines.new.out)
    (Err c.in-Err.stop) c.if-script-gt-MAX_TEXT.false
    (prefix_for m c.args.purpose (answers m c.args.config.now 1 (lines_of c.args.script.now)) _ _ c.in-Err.stop
    c.in-Err.ensures.leaves)
