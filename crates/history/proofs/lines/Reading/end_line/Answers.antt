use Rattle.std.proofs.Common.{subst, sym, [], ◌++◌, arith, ap, length}
use Rattle.std.proofs.lemmas.Result.{err_from_is_err_and}
use Rattle.history.specs.HistoryText.{ended}
use Rattle.history.specs.Reading.{GoesOn, IsFaulty}
use Rattle.history.proofs.ReadLines.{ended_at, faulty_on, whole_lines}
use Rattle.history.proofs.lines.Reading.end_line.Goals as goal

pub returns-in_err-go_on-clause-err : goal.returns-in_err-go_on-clause-err
returns-in_err-go_on-clause-err c =
    let p = err_from_is_err_and c.from_residual.result c.from_residual.ensures.1 in
    rw (p.1, p.2)
    (λ memory before text plain read.
    faulty_on text c.args.bytes.now _ (c.in_err-go_on.ensures.err memory before text plain read))

pub returns-in_err-take-clause-err : goal.returns-in_err-take-clause-err
returns-in_err-take-clause-err c =
    let p = err_from_is_err_and c.from_residual-in_err-take.result c.from_residual-in_err-take.ensures.1 in
    rw (p.1, p.2)
    (λ memory before text plain read.
    let on = c.in_ok-go_on.ensures.ok before text plain read in
    let lines = whole_lines c.go_on.new.self.lines before c.go_on.new.self.line.items (text ++ c.args.bytes.now)
    on.lines in
    subst (λ t. IsFaulty t c.in_err-take.field-0.0)
    (ended_at lines.whole c.go_on.new.self.line.items text c.args.bytes.now lines.cut)
    ((rw c.deref.ensures.value at c.in_err-take.ensures.err) memory before lines.whole on.plain lines.on))

pub returns-clause-ok : goal.returns-clause-ok
returns-clause-ok c before text plain read =
    let on = c.in_ok-go_on.ensures.ok before text plain read in
    let lines = whole_lines c.go_on.new.self.lines before c.go_on.new.self.line.items (text ++ c.args.bytes.now)
    on.lines in
    let taken = (rw c.deref.ensures.value at c.in_ok-take.ensures.ok) before lines.whole lines.on in
    record {
      lines = subst (λ line. GoesOn c.take-2.new.self before line (text ++ ended c.args.bytes.now))
          (sym c.clear.ensures.items)
          (subst (GoesOn c.take-2.new.self before [])
          (ended_at lines.whole c.go_on.new.self.line.items text c.args.bytes.now lines.cut) taken);
      plain = rw c.clear.ensures.items tt;
      short = omega (arith, ap length c.clear.ensures.items);
    }
