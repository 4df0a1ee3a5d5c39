use Rattle.std.proofs.Common.{[], ◌++◌, subst}
use Rattle.std.proofs.lemmas.Result.{err_from_is_err_and}
use Rattle.history.specs.Reading.{IsSoFar}
use Rattle.history.proofs.ReadLines.{bad_version}
use Rattle.history.proofs.lines.Lines.take_first.Goals as goal

pub returns-in_err-read_first_line-clause-err : goal.returns-in_err-read_first_line-clause-err
returns-in_err-read_first_line-clause-err c =
    let self = c.args.self.now in
    let p = err_from_is_err_and c.from_residual.result c.from_residual.ensures.1 in
    rw (p.1, p.2)
    (λ memory before text plain on.
    bad_version (before ++ self.entries.items) c.args.line.now text _
    (subst (λ o. IsSoFar o (before ++ self.entries.items) [] text) c.requires on.so_far)
    plain c.in_err-read_first_line.ensures.err)
