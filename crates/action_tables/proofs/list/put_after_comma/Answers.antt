use Rattle.std.proofs.Common.{◌∷◌, []}
use Rattle.std.proofs.lemmas.Result.{on_err_weaker}
use Rattle.action_tables.proofs.Prefixes.{AppendsPrefix-first, AppendsPrefix-then, OnErr-always}
use Rattle.action_tables.proofs.list.put_after_comma.Goals as goal

pub returns-in_err-put_bytes-clause-err : goal.returns-in_err-put_bytes-clause-err
returns-in_err-put_bytes-clause-err g c =
    OnErr-always _ _
    (AppendsPrefix-first _ _ (44 ∷ []) (g.T.ListItem.text c.args.item.now) c.in_err-put_bytes.ensures.err)

pub returns-clause-err : goal.returns-clause-err
returns-clause-err g c =
    on_err_weaker _
    (AppendsPrefix-then _ _ _ (44 ∷ []) (g.T.ListItem.text c.args.item.now) c.in_ok-put_bytes.ensures.ok)
    c.put.ensures.err
