use Rattle.std.specs.Prelude.{codes}
use Rattle.std.proofs.Common.{refl}
use Rattle.action_tables.proofs.Prefixes.{AppendsPrefix-first, OnErr-always, OnErr-then}
use Rattle.history.specs.HistoryText.{ended, entry_line}
use Rattle.reset_service.specs.Reasons.{entry_text}
use Rattle.reset_service.proofs.reasons.put_entry_text.Goals as goal

pub returns-in_err-put_bytes-clause-err : goal.returns-in_err-put_bytes-clause-err
returns-in_err-put_bytes-clause-err g c =
    OnErr-always _ _
    (AppendsPrefix-first _ _ (codes "entry ") (ended (entry_line c.args.entry.now)) c.in_err-put_bytes.ensures.err)

pub returns-clause-err : goal.returns-clause-err
returns-clause-err g c =
    OnErr-then c.put_entry.result (g.W.Write.contents c.args.out.now) (g.W.Write.contents c.put_bytes.new.out)
    (g.W.Write.contents c.put_entry.new.out) (codes "entry ") (ended (entry_line c.args.entry.now))
    (entry_text c.args.entry.now) refl c.in_ok-put_bytes.ensures.ok c.put_entry.ensures.err
