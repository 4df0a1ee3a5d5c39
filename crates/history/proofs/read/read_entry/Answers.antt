use Rattle.std.proofs.Common.{true≢false, sym}
use Rattle.history.proofs.ReadLines.{is_no_entry, is_other_fault}
use Rattle.history.proofs.read.read_entry.Goals as goal
use Rattle.history.proofs.read.read_entry.Goals.{in_default-2-via-in-Some-2+else-is_entry_in}
use Rattle.history.proofs.read.read_entry.Goals.{in_default-2-via-in_default-2}

pub returns-in_default-2-clause-only : goal.returns-in_default-2-clause-only
returns-in_default-2-clause-only c =
    let no_event = c.in_default.ensures.only in
    elim c.in_default-2.branch [
      | in_default-2-via-in-Some-2+else-is_entry_in w ↦
          let fault = w.in-Some-2.fault in
          let found = rw w.in-Some-2.is at c.in_ok-fault.ensures.found in
          let fits = rw w.in-Some-2.is at c.in_ok-fault.ensures.fits in
          is_no_entry c.args.version c.args.line.now no_event
          (is_other_fault c.args.version c.args.line.now fault fits found
          (λ may_stand. true≢false (sym (w.if-is_entry_in.ensures.1 may_stand))))
      | in_default-2-via-in_default-2 w ↦
          let no_fault = rw w.in_default-2.is at c.in_ok-fault.ensures.only in
          is_no_entry c.args.version c.args.line.now no_event (λ f fits printable known is. no_fault f fits is)
    ]
