use Rattle.std.proofs.Common.{subst, arith}
use Rattle.action_tables.specs.Written.{AppendsPrefix}
use Rattle.action_tables.proofs.Prefixes.{OnErr-always}
use Rattle.action_tables.proofs.Pieces.{AppendsPrefix-piece}
use Rattle.history.specs.declared.entry.Entry.{Entry}
use Rattle.history.specs.HistoryText.{ended, entry_line}
use Rattle.history.proofs.text.put_entries.Goals as goal

pub returns-in_err-put_entry-clause-err : goal.returns-in_err-put_entry-clause-err
returns-in_err-put_entry-clause-err g c =
    let here =
    subst (λ (e : Entry). AppendsPrefix (g.W.Write.contents c.loop-entry.out)
    (g.W.Write.contents c.put_entry.new.out) (ended (entry_line e))) c.entry-item.is c.in_err-put_entry.ensures.err
    in
    OnErr-always _ _
    (AppendsPrefix-piece _ _ _ (λ entry. ended (entry_line entry)) c.args.entries.now c.loop-entry.entry-index
    c.entry-item.result (omega arith) c.loop-entry.invariant here)
