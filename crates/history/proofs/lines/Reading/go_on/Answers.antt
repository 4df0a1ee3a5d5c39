use Rattle.std.proofs.Common.{◌++◌, arith}
use Rattle.history.proofs.ReadLines.{bad_long, has_more}
use Rattle.history.proofs.lines.Reading.go_on.Goals as goal

pub returns-then-bytes-len-gt-MAX_LINE-clause-err : goal.returns-then-bytes-len-gt-MAX_LINE-clause-err
returns-then-bytes-len-gt-MAX_LINE-clause-err c memory before text plain read =
    let self = c.args.self.now in
    rw (c.bad_line.ensures, read.lines.counted)
    (bad_long self.lines.header (before ++ self.lines.entries.items) self.line.items c.args.bytes.now text
    read.lines.so_far read.plain plain
    (omega (arith, c.if-bytes-len-gt-MAX_LINE.true, c.len.ensures)))

pub returns-in-Ok-clause-ok : goal.returns-in-Ok-clause-ok
returns-in-Ok-clause-ok c before text plain read =
    has_more c.args.self.now c.extend_from_slice.new.self before c.args.bytes.now text read plain
    c.in-Ok.ensures.items
    (omega (arith, c.if-bytes-len-gt-MAX_LINE.false, c.len.ensures))
