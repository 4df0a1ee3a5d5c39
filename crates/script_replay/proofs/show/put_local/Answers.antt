use Rattle.std.specs.Prelude.{codes}
use Rattle.std.proofs.Common.{refl}
use Rattle.action_tables.proofs.Prefixes.{AppendsPrefix-first, OnErr-always, OnErr-then}
use Rattle.history.specs.HistoryText.{ended}
use Rattle.script_replay.proofs.show.put_local.Goals as goal

pub returns-in_err-show-clause-err : goal.returns-in_err-show-clause-err
returns-in_err-show-clause-err g c =
    OnErr-always _ _
    (AppendsPrefix-first _ _ (g.P.Application.text c.args.local.now) (codes "\n") c.in_err-show.ensures.err)

pub returns-clause-err : goal.returns-clause-err
returns-clause-err g c =
    OnErr-then c.put_bytes.result (g.W.Write.contents c.args.out.now) (g.W.Write.contents c.show.new.out)
    (g.W.Write.contents c.put_bytes.new.out)
    (g.P.Application.text c.args.local.now) (codes "\n") (ended (g.P.Application.text c.args.local.now)) refl
    c.in_ok-show.ensures.ok c.put_bytes.ensures.err
