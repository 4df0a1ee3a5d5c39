use Rattle.std.proofs.Common.{subst, ◌++◌, append_assoc}
use Rattle.std.proofs.lemmas.Result.{err_from_is_err_and}
use Rattle.history.specs.HistoryText.{ended}
use Rattle.history.specs.Reading.{HasRead}
use Rattle.history.proofs.ReadLines.{faulty_more, fed_line}
use Rattle.history.proofs.lines.Reading.feed.Goals as goal

pub returns-in_err-end_line-clause-err : goal.returns-in_err-end_line-clause-err
returns-in_err-end_line-clause-err c =
    let (done, cut, fed) = c.loop-line.invariant in
    let p = err_from_is_err_and c.from_residual.result c.from_residual.ensures.1 in
    rw (p.1, p.2)
    (λ memory before text read.
    faulty_more text done c.loop-line.rest.now c.in-Some.line.now c.in-Some.after.now c.args.bytes.now _ cut
    c.in-Some.ensures.found
    (c.in_err-end_line.ensures.err memory before (text ++ done) c.in-Some.ensures.first (fed before text read)))

pub loop-line-preserved : goal.loop-line-preserved
loop-line-preserved c =
    let (done, cut, fed) = c.loop-line.invariant in (
      done ++ ended c.in-Some.line.now,
      fed_line done c.loop-line.rest.now c.in-Some.line.now c.in-Some.after.now c.args.bytes.now cut
          c.in-Some.ensures.found,
      λ before text read. subst (HasRead c.end_line.new.self before)
          (append_assoc text done (ended c.in-Some.line.now))
          (c.in_ok-end_line.ensures.ok before (text ++ done) c.in-Some.ensures.first (fed before text read)),
    )
