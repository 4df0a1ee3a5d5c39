use Rattle.std.proofs.Common.{◌+◌, [], ap, sym, ◌∙◌, arith}
use Rattle.script_replay.specs.Left.{first_bad}
use Rattle.script_replay.specs.Lines.{lines_of}
use Rattle.diagnoses.proofs.BadLines.{first_after, first_here, first_of_none}
use Rattle.diagnoses.proofs.bad_line.first_bad_line.Goals as goal

pub returns-then-branch-clause-number : goal.returns-then-branch-clause-number
returns-then-branch-clause-number g c =
    let names = g.P.Application.names in
    let n = c.loop-text.number in
    sym
    (c.loop-text.invariant.0 ∙ ap (first_bad names n) c.in-Some.ensures.found
    ∙ first_here names n c.in-Some.text.now (lines_of c.in-Some.after.now)
    (sym c.in_ok-is_bad.ensures ∙ c.if-branch.true))

pub loop-text-preserved : goal.loop-text-preserved
loop-text-preserved g c =
    let names = g.P.Application.names in
    let n = c.loop-text.number in
    let (first, bound) = c.loop-text.invariant in
    let shorter = c.in-Some.ensures.shorter in (
      first ∙ ap (first_bad names n) c.in-Some.ensures.found
          ∙ first_after names n c.in-Some.text.now (lines_of c.in-Some.after.now)
          (sym c.in_ok-is_bad.ensures ∙ c.if-branch.false),
      omega (arith, bound, shorter),
    )

pub returns-then-branch-2-clause-number : goal.returns-then-branch-2-clause-number
returns-then-branch-2-clause-number g c =
    let names = g.P.Application.names in
    let n = c.loop-text.number in
    sym
    (c.loop-text.invariant.0 ∙ ap (first_bad names n) c.in_default.ensures.only
    ∙ first_here names n c.loop-text.rest.now [] (sym c.in_ok-is_bad-2.ensures ∙ c.if-branch-2.true))

pub returns-else-branch-2-clause-number : goal.returns-else-branch-2-clause-number
returns-else-branch-2-clause-number g c =
    let names = g.P.Application.names in
    let n = c.loop-text.number in
    sym
    (c.loop-text.invariant.0 ∙ ap (first_bad names n) c.in_default.ensures.only
    ∙ first_after names n c.loop-text.rest.now [] (sym c.in_ok-is_bad-2.ensures ∙ c.if-branch-2.false)
    ∙ first_of_none names (n + 1))
