use Rattle.std.proofs.Common.{◌++◌, length, ap, subst, arith}
use Rattle.std.proofs.lemmas.Bool.Decides.{nat_tests}
use Rattle.history.specs.Reading.{IsSoFar}
use Rattle.history.proofs.ReadLines.{bad_end, good_end}
use Rattle.history.proofs.lines.Reading.end.Goals as goal

pub returns-then-not-is_empty-clause-err : goal.returns-then-not-is_empty-clause-err
returns-then-not-is_empty-clause-err c before text read =
    let self = c.args.self.now in
    rw (c.bad_line.ensures, read.lines.counted)
    (bad_end self.lines.header (before ++ self.lines.entries.items) self.line.items text read.lines.so_far read.plain
    (λ some empty. absurd (grind (arith, nat_tests, c.if-not-is_empty.ensures, ap length empty))))

pub returns-in-Some-clause-ok : goal.returns-in-Some-clause-ok
returns-in-Some-clause-ok c before text read =
    let self = c.args.self.now in
    let es = before ++ self.lines.entries.items in
    good_end c.in-Some.header es self.line.items text
    (subst (λ o. IsSoFar o es self.line.items text) c.in-Some.is read.lines.so_far)
    (grind (arith, nat_tests, c.if-not-is_empty.ensures))

pub returns-in-None-clause-err : goal.returns-in-None-clause-err
returns-in-None-clause-err c before text read =
    let self = c.args.self.now in
    rw (c.bad_line-in-None.ensures, read.lines.counted)
    (bad_end self.lines.header (before ++ self.lines.entries.items) self.line.items text read.lines.so_far read.plain
    (λ some. absurd (some c.in-None.is)))
