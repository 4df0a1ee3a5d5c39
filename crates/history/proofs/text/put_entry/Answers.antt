use Rattle.std.proofs.Common.{[], ◌∷◌, refl}
use Rattle.action_tables.proofs.Prefixes.{AppendsPrefix-first, OnErr-always, OnErr-then}
use Rattle.history.specs.HistoryText.{ended, entry_line}
use Rattle.history.proofs.text.put_entry.Goals as goal

pub returns-in_err-put_command-clause-err : goal.returns-in_err-put_command-clause-err
returns-in_err-put_command-clause-err g c =
    OnErr-always _ _ (AppendsPrefix-first _ _ (entry_line c.args.entry.now) (10 ∷ []) c.in_err-put_command.ensures.err)

pub returns-clause-err : goal.returns-clause-err
returns-clause-err g c =
    OnErr-then c.put_bytes.result (g.W.Write.contents c.args.out.now) (g.W.Write.contents c.put_command.new.out)
    (g.W.Write.contents c.put_bytes.new.out)
    (entry_line c.args.entry.now) (10 ∷ []) (ended (entry_line c.args.entry.now)) refl
    c.in_ok-put_command.ensures.ok c.put_bytes.ensures.err
