use Rattle.std.proofs.Common.{arith, [], refl, sym}
use Rattle.applications.specs.Meaning.{meaning_of}
use Rattle.script_replay.specs.Left.{bad_line_of}
use Rattle.script_replay.specs.Lines.{lines_of}
use Rattle.script_replay.specs.Output.{answers}
use Rattle.script_replay.proofs.Leaving.{good_last, left_last, passed_bad, passed_on, stopped_at, stopped_bad}
use Rattle.script_replay.proofs.left.leave_script.Goals as goal

pub returns-then-not-branch-clause-bad : goal.returns-then-not-branch-clause-bad
returns-then-not-branch-clause-bad g c =
    let m =
    meaning_of g.P.Application.app g.P.Application.text g.P.Application.from_text g.P.Application.names
    g.P.Invariant.counts in
    let (leads, first, bound) = c.loop-line.invariant in
    sym
    (stopped_bad m (answers m c.args.config.now 1 (lines_of c.args.script.now)) (bad_line_of m.names c.args.script.now)
    c.loop-line.config c.pass_line.new.config c.loop-line.number (lines_of c.loop-line.rest.now)
    (lines_of c.in-Some.after.now) c.in-Some.line.now c.in_ok-pass_line.field-0 leads first c.in-Some.ensures.found
    c.in_ok-pass_line.ensures c.if-not-branch.true)

pub returns-then-not-branch-clause-left : goal.returns-then-not-branch-clause-left
returns-then-not-branch-clause-left g c =
    let m =
    meaning_of g.P.Application.app g.P.Application.text g.P.Application.from_text g.P.Application.names
    g.P.Invariant.counts in
    let (leads, first, bound) = c.loop-line.invariant in
    stopped_at m (answers m c.args.config.now 1 (lines_of c.args.script.now)) (bad_line_of m.names c.args.script.now)
    c.loop-line.config c.pass_line.new.config c.loop-line.number (lines_of c.loop-line.rest.now)
    (lines_of c.in-Some.after.now) c.in-Some.line.now c.in_ok-pass_line.field-0 leads first c.in-Some.ensures.found
    c.in_ok-pass_line.ensures c.if-not-branch.true

pub loop-line-preserved : goal.loop-line-preserved
loop-line-preserved g c =
    let m =
    meaning_of g.P.Application.app g.P.Application.text g.P.Application.from_text g.P.Application.names
    g.P.Invariant.counts in
    let (leads, first, bound) = c.loop-line.invariant in
    let all = answers m c.args.config.now 1 (lines_of c.args.script.now) in
    let bad = bad_line_of m.names c.args.script.now in
    let shorter = c.in-Some.ensures.shorter in (
      passed_on m all bad c.loop-line.config c.pass_line.new.config c.loop-line.number (lines_of c.loop-line.rest.now)
          (lines_of c.in-Some.after.now) c.in-Some.line.now c.in_ok-pass_line.field-0 leads first
          c.in-Some.ensures.found c.in_ok-pass_line.ensures c.if-not-branch.false,
      passed_bad m all bad c.loop-line.config c.pass_line.new.config c.loop-line.number
          (lines_of c.loop-line.rest.now) (lines_of c.in-Some.after.now) c.in-Some.line.now c.in_ok-pass_line.field-0
          leads first c.in-Some.ensures.found c.in_ok-pass_line.ensures c.if-not-branch.false,
      omega (arith, bound, shorter),
    )

pub returns-then-branch-clause-bad : goal.returns-then-branch-clause-bad
returns-then-branch-clause-bad g c =
    let m =
    meaning_of g.P.Application.app g.P.Application.text g.P.Application.from_text g.P.Application.names
    g.P.Invariant.counts in
    let (leads, first, bound) = c.loop-line.invariant in
    sym
    (good_last m (answers m c.args.config.now 1 (lines_of c.args.script.now)) (bad_line_of m.names c.args.script.now)
    c.loop-line.config c.pass_line-2.new.config c.loop-line.number (lines_of c.loop-line.rest.now) []
    c.loop-line.rest.now c.in_ok-pass_line-2.field-0 leads first c.in_default.ensures.only
    c.in_ok-pass_line-2.ensures refl c.if-branch.true)

pub returns-then-branch-clause-left : goal.returns-then-branch-clause-left
returns-then-branch-clause-left g c =
    let m =
    meaning_of g.P.Application.app g.P.Application.text g.P.Application.from_text g.P.Application.names
    g.P.Invariant.counts in
    let (leads, first, bound) = c.loop-line.invariant in
    left_last m (answers m c.args.config.now 1 (lines_of c.args.script.now)) (bad_line_of m.names c.args.script.now)
    c.loop-line.config c.pass_line-2.new.config c.loop-line.number (lines_of c.loop-line.rest.now) []
    c.loop-line.rest.now c.in_ok-pass_line-2.field-0 leads first c.in_default.ensures.only
    c.in_ok-pass_line-2.ensures refl

pub returns-else-branch-clause-bad : goal.returns-else-branch-clause-bad
returns-else-branch-clause-bad g c =
    let m =
    meaning_of g.P.Application.app g.P.Application.text g.P.Application.from_text g.P.Application.names
    g.P.Invariant.counts in
    let (leads, first, bound) = c.loop-line.invariant in
    sym
    (stopped_bad m (answers m c.args.config.now 1 (lines_of c.args.script.now)) (bad_line_of m.names c.args.script.now)
    c.loop-line.config c.pass_line-2.new.config c.loop-line.number (lines_of c.loop-line.rest.now) []
    c.loop-line.rest.now c.in_ok-pass_line-2.field-0 leads first c.in_default.ensures.only
    c.in_ok-pass_line-2.ensures c.if-branch.false)

pub returns-else-branch-clause-left : goal.returns-else-branch-clause-left
returns-else-branch-clause-left g c =
    let m =
    meaning_of g.P.Application.app g.P.Application.text g.P.Application.from_text g.P.Application.names
    g.P.Invariant.counts in
    let (leads, first, bound) = c.loop-line.invariant in
    left_last m (answers m c.args.config.now 1 (lines_of c.args.script.now)) (bad_line_of m.names c.args.script.now)
    c.loop-line.config c.pass_line-2.new.config c.loop-line.number (lines_of c.loop-line.rest.now) []
    c.loop-line.rest.now c.in_ok-pass_line-2.field-0 leads first c.in_default.ensures.only
    c.in_ok-pass_line-2.ensures refl
