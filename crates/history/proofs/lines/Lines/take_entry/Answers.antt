use Rattle.std.proofs.Common.{◌++◌, ◌∙◌, sym}
use Rattle.history.proofs.ReadLines.{no_entry, one_kept, too_many}
use Rattle.history.proofs.lines.Lines.take_entry.Goals as goal
use Rattle.history.proofs.lines.Lines.take_entry.Goals.{in-Ok, in-Err-push}

pub returns-then-self-eq-MAX_ENTRIES-clause-err : goal.returns-then-self-eq-MAX_ENTRIES-clause-err
returns-then-self-eq-MAX_ENTRIES-clause-err c memory before text plain on =
    let self = c.args.self.now in
    let found = rw c.in-Ok-Some.field-0-is at c.in-Ok-Some.ensures.found in
    too_many self.header c.args.header c.requires (before ++ self.entries.items) c.in-Ok-Some.entry c.args.line.now text
    on.so_far
    (sym on.counted ∙ c.if-self-eq-MAX_ENTRIES.true)
    found.0 found.1

pub returns-in-Ok-None-clause-err : goal.returns-in-Ok-None-clause-err
returns-in-Ok-None-clause-err c memory before text plain on =
    let self = c.args.self.now in
    rw (c.bad_line.ensures, on.counted)
    (no_entry self.header c.args.header c.requires (before ++ self.entries.items) c.args.line.now text on.so_far plain
    (rw c.in-Ok-None.field-0-is at c.in-Ok-None.ensures.only))

pub returns-clause-ok : goal.returns-clause-ok
returns-clause-ok c =
    let self = c.args.self.now in
    elim c.match-push.branch [
      | in-Ok w ↦
          rw (w.result-is, w.self-is)
          (λ before text on.
          let found = rw c.in-Ok-Some.field-0-is at c.in-Ok-Some.ensures.found in
          let kept =
          one_kept self.header c.args.header c.requires self.count before self.entries.items c.push.new.self.items
          c.in-Ok-Some.entry c.args.line.now text on.counted on.so_far c.if-self-eq-MAX_ENTRIES.false found.0 found.1
          w.in-Ok.ensures.items in
          record { counted = kept.0; so_far = kept.1 })
      | in-Err-push w ↦ rw w.result-is tt
    ]
