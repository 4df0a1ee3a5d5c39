use Rattle.std.proofs.Common.{◌≢◌, ◌++◌, sym, ap, ◌∙◌, rules, arith}
use Rattle.std.proofs.KnownBytes.{Appends-trans}
use Rattle.applications.specs.Meaning.{meaning_of}
use Rattle.script_replay.specs.Lines.{lines_of}
use Rattle.script_replay.specs.Parts.{next_text}
use Rattle.script_replay.specs.Script.{line_of}
use Rattle.script_replay.specs.Output.{answer_to, answers, line_answer, Answer}
use Rattle.script_replay.specs.declared.status.Status.TheVariants.{Good}
use Rattle.script_replay.proofs.Runs.{last_config, left_bad, left_ended, left_good, left_result, left_stop}
use Rattle.script_replay.proofs.replays.answer_lines.Goals as goal

pub returns-in-Ok : goal.returns-in-Ok
returns-in-Ok g c =
    let m =
    meaning_of g.P.Application.app g.P.Application.text g.P.Application.from_text g.P.Application.names
    g.P.Invariant.counts in
    let (done, left, wrote, bound) = c.loop-line.invariant in
    let all = answers m c.args.config.now 1 (lines_of c.args.script.now) in
    let a = answer_to m c.loop-line.config c.loop-line.number (line_of m.names (next_text c.in-Some.line)) in
    let ok = c.in-Ok.ensures.ok in
    let stopped : c.in-Ok.ended ≢ Good = search rules in
    let bad : a.status ≢ Good = λ good. stopped (ok.0 ∙ good) in
    let is =
    left_bad (line_answer m) all done c.loop-line.config c.loop-line.number (lines_of c.loop-line.rest.now)
    (lines_of c.in-Some.after.now) (next_text c.in-Some.line)
    left c.in-Some.ensures.found bad in
    record {
      leaves = left_ended all a _ _ _ done c.in-Ok.ended is ok.0 wrote ok.2;
      config = ok.1 ∙ sym (ap (λ (x : Answer _). x.config) is);
      stop = tt;
    }

pub returns-in-Err-clause-leaves : goal.returns-in-Err-clause-leaves
returns-in-Err-clause-leaves g c =
    let m =
    meaning_of g.P.Application.app g.P.Application.text g.P.Application.from_text g.P.Application.names
    g.P.Invariant.counts in
    let (done, left, wrote, bound) = c.loop-line.invariant in
    left_stop (line_answer m) (answers m c.args.config.now 1 (lines_of c.args.script.now)) (g.W.Write.contents c.args.out.now)
    (g.W.Write.contents c.loop-line.out) (g.W.Write.contents c.answer_next.new.out) done c.loop-line.config
    c.loop-line.number
    (lines_of c.loop-line.rest.now) (lines_of c.in-Some.after.now) (next_text c.in-Some.line) c.in-Err.stop
    left c.in-Some.ensures.found wrote c.in-Err.ensures.err c.in-Err.ensures.stop

pub loop-line-preserved : goal.loop-line-preserved
loop-line-preserved g c =
    let m =
    meaning_of g.P.Application.app g.P.Application.text g.P.Application.from_text g.P.Application.names
    g.P.Invariant.counts in
    let (done, left, wrote, bound) = c.loop-line.invariant in
    let a = answer_to m c.loop-line.config c.loop-line.number (line_of m.names (next_text c.in-Some.line)) in
    let ok = c.in-Ok-Good.ensures.ok in
    let shorter = c.in-Some.ensures.shorter in (
      done ++ a.text,
      left_good (line_answer m) (answers m c.args.config.now 1 (lines_of c.args.script.now)) done c.loop-line.config
          c.answer_next.new.config
          c.loop-line.number (lines_of c.loop-line.rest.now) (lines_of c.in-Some.after.now) (next_text c.in-Some.line)
          left c.in-Some.ensures.found (sym ok.0 ∙ c.in-Ok-Good.field-0-is) ok.1,
      Appends-trans _ _ _ done a.text wrote ok.2,
      omega (arith, bound, shorter),
    )

pub returns-clause-leaves : goal.returns-clause-leaves
returns-clause-leaves g c =
    let m =
    meaning_of g.P.Application.app g.P.Application.text g.P.Application.from_text g.P.Application.names
    g.P.Invariant.counts in
    let (done, left, wrote, bound) = c.loop-line.invariant in
    left_result (line_answer m) (answers m c.args.config.now 1 (lines_of c.args.script.now)) (g.W.Write.contents c.args.out.now)
    (g.W.Write.contents c.loop-line.out) (g.W.Write.contents c.answer_line.new.out) done c.loop-line.config
    c.answer_line.new.config
    c.loop-line.number (lines_of c.loop-line.rest.now) c.loop-line.rest.now c.answer_line.result
    left c.in_default.ensures.only wrote c.answer_line.ensures.ok c.answer_line.ensures.err
    c.answer_line.ensures.stop

pub returns-clause-config : goal.returns-clause-config
returns-clause-config g c =
    let m =
    meaning_of g.P.Application.app g.P.Application.text g.P.Application.from_text g.P.Application.names
    g.P.Invariant.counts in
    let (done, left, wrote, bound) = c.loop-line.invariant in
    last_config (line_answer m) (answers m c.args.config.now 1 (lines_of c.args.script.now)) _ _ done c.loop-line.config
    c.answer_line.new.config
    c.loop-line.number (lines_of c.loop-line.rest.now) c.loop-line.rest.now c.answer_line.result
    left c.in_default.ensures.only c.answer_line.ensures.ok
