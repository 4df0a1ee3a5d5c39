use Rattle.std.proofs.Common.{◌≢◌, ◌++◌, sym, ◌∙◌, rules, arith}
use Rattle.std.proofs.KnownBytes.{Appends-trans}
use Rattle.applications.specs.Meaning.{meaning_of}
use Rattle.script_replay.specs.Lines.{lines_of}
use Rattle.script_replay.specs.Marked.{is_refused, marked_answer, marked_answers}
use Rattle.script_replay.specs.declared.status.Status.TheVariants.{Good}
use Rattle.script_replay.specs.Output.{line_answer}
use Rattle.script_replay.specs.Tallies.{answered, counted}
use Rattle.script_replay.proofs.Runs.{left_bad, left_ended, left_good, left_result, left_stop}
use Rattle.script_replay.proofs.Tallying.{counted_small, tally_ends, tally_goes_on, tally_result}
use Rattle.script_replay.proofs.marked.answer_marked_lines.Goals as goal

pub returns-in-Ok-clause-leaves : goal.returns-in-Ok-clause-leaves
returns-in-Ok-clause-leaves g c =
    let m =
    meaning_of g.P.Application.app g.P.Application.text g.P.Application.from_text g.P.Application.names
    g.P.Invariant.counts in
    let (done, left, wrote, bound, counts, small) = c.loop-line.invariant in
    let all = marked_answers m c.args.marks c.args.config.now c.args.script.now in
    let a = marked_answer m c.args.marks c.loop-line.config c.loop-line.number c.in-Some.line.now in
    let ok = c.in-Ok.ensures.ok in
    let stopped : c.in-Ok.ended ≢ Good = search rules in
    let bad : a.status ≢ Good = λ good. stopped (ok.0 ∙ good) in
    let is =
    left_bad (marked_answer m c.args.marks) all done c.loop-line.config c.loop-line.number (lines_of c.loop-line.rest.now)
    (lines_of c.in-Some.after.now) c.in-Some.line.now
    left c.in-Some.ensures.found bad in
    left_ended all a _ _ _ done c.in-Ok.ended is ok.0 wrote ok.2

pub returns-in-Ok-clause-tally : goal.returns-in-Ok-clause-tally
returns-in-Ok-clause-tally g c =
    let m =
    meaning_of g.P.Application.app g.P.Application.text g.P.Application.from_text g.P.Application.names
    g.P.Invariant.counts in
    let (done, left, wrote, bound, counts, small) = c.loop-line.invariant in
    let a = marked_answer m c.args.marks c.loop-line.config c.loop-line.number c.in-Some.line.now in
    let stopped : c.in-Ok.ended ≢ Good = search rules in
    let bad : a.status ≢ Good = λ good. stopped (c.in-Ok.ensures.ok.0 ∙ good) in
    tally_ends m c.args.marks
    (counted c.args.tally.now (answered m c.args.marks c.args.config.now 1 (lines_of c.args.script.now))) c.loop-line.tally
    c.answer_marked.new.tally c.loop-line.config c.loop-line.number (lines_of c.loop-line.rest.now)
    (lines_of c.in-Some.after.now) c.in-Some.line.now counts c.in-Some.ensures.found bad c.in-Ok.ensures.tally

pub returns-in-Err-clause-leaves : goal.returns-in-Err-clause-leaves
returns-in-Err-clause-leaves g c =
    let m =
    meaning_of g.P.Application.app g.P.Application.text g.P.Application.from_text g.P.Application.names
    g.P.Invariant.counts in
    let (done, left, wrote, bound, counts, small) = c.loop-line.invariant in
    left_stop (marked_answer m c.args.marks) (marked_answers m c.args.marks c.args.config.now c.args.script.now)
    (g.W.Write.contents c.args.out.now)
    (g.W.Write.contents c.loop-line.out) (g.W.Write.contents c.answer_marked.new.out) done c.loop-line.config
    c.loop-line.number
    (lines_of c.loop-line.rest.now) (lines_of c.in-Some.after.now) c.in-Some.line.now c.in-Err.stop
    left c.in-Some.ensures.found wrote c.in-Err.ensures.err c.in-Err.ensures.stop

pub loop-line-preserved : goal.loop-line-preserved
loop-line-preserved g c =
    let m =
    meaning_of g.P.Application.app g.P.Application.text g.P.Application.from_text g.P.Application.names
    g.P.Invariant.counts in
    let (done, left, wrote, bound, counts, small) = c.loop-line.invariant in
    let a = marked_answer m c.args.marks c.loop-line.config c.loop-line.number c.in-Some.line.now in
    let ok = c.in-Ok-Good.ensures.ok in
    let shorter = c.in-Some.ensures.shorter in (
      done ++ a.text,
      left_good (marked_answer m c.args.marks) (marked_answers m c.args.marks c.args.config.now c.args.script.now) done
          c.loop-line.config
          c.answer_marked.new.config
          c.loop-line.number (lines_of c.loop-line.rest.now) (lines_of c.in-Some.after.now) c.in-Some.line.now
          left c.in-Some.ensures.found (sym ok.0 ∙ c.in-Ok-Good.field-0-is) ok.1,
      Appends-trans _ _ _ done a.text wrote ok.2,
      omega (arith, bound, shorter),
      tally_goes_on m c.args.marks
          (counted c.args.tally.now (answered m c.args.marks c.args.config.now 1 (lines_of c.args.script.now))) c.loop-line.tally
          c.answer_marked.new.tally c.loop-line.config c.answer_marked.new.config c.loop-line.number
          (lines_of c.loop-line.rest.now) (lines_of c.in-Some.after.now) c.in-Some.line.now counts
          c.in-Some.ensures.found (sym ok.0 ∙ c.in-Ok-Good.field-0-is) ok.1 c.in-Ok-Good.ensures.tally,
      rw c.in-Ok-Good.ensures.tally
          (counted_small c.loop-line.tally c.loop-line.number c.in-Some.line.now
          (line_answer m c.loop-line.config c.loop-line.number c.in-Some.line.now).status
          (is_refused (line_answer m c.loop-line.config c.loop-line.number c.in-Some.line.now).text) small),
    )

pub returns-clause-leaves : goal.returns-clause-leaves
returns-clause-leaves g c =
    let m =
    meaning_of g.P.Application.app g.P.Application.text g.P.Application.from_text g.P.Application.names
    g.P.Invariant.counts in
    let (done, left, wrote, bound, counts, small) = c.loop-line.invariant in
    left_result (marked_answer m c.args.marks) (marked_answers m c.args.marks c.args.config.now c.args.script.now)
    (g.W.Write.contents c.args.out.now)
    (g.W.Write.contents c.loop-line.out) (g.W.Write.contents c.answer_marked-2.new.out) done c.loop-line.config
    c.answer_marked-2.new.config
    c.loop-line.number (lines_of c.loop-line.rest.now) c.loop-line.rest.now c.answer_marked-2.result
    left c.in_default.ensures.only wrote c.answer_marked-2.ensures.ok c.answer_marked-2.ensures.err
    c.answer_marked-2.ensures.stop

pub returns-clause-tally : goal.returns-clause-tally
returns-clause-tally g c =
    let m =
    meaning_of g.P.Application.app g.P.Application.text g.P.Application.from_text g.P.Application.names
    g.P.Invariant.counts in
    let (done, left, wrote, bound, counts, small) = c.loop-line.invariant in
    tally_result m c.args.marks
    (counted c.args.tally.now (answered m c.args.marks c.args.config.now 1 (lines_of c.args.script.now))) c.loop-line.tally
    c.answer_marked-2.new.tally c.loop-line.config c.loop-line.number (lines_of c.loop-line.rest.now) c.loop-line.rest.now
    c.answer_marked-2.result counts c.in_default.ensures.only c.answer_marked-2.ensures.tally
