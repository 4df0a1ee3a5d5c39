use Rattle.std.proofs.Common.{◌∷◌, subst, arith}
use Rattle.action_tables.specs.Written.{AppendsPrefix}
use Rattle.action_tables.proofs.Prefixes.{OnErr-always}
use Rattle.action_tables.proofs.Pieces.{AppendsPrefix-piece}
use Rattle.action_tables.proofs.list.put_more.Goals as goal

pub returns-in_err-put_after_comma-clause-err : goal.returns-in_err-put_after_comma-clause-err
returns-in_err-put_after_comma-clause-err g c =
    let here =
    subst (λ x. AppendsPrefix (g.W.Write.contents c.loop-item.out) (g.W.Write.contents c.put_after_comma.new.out)
    (44 ∷ g.T.ListItem.text x)) c.item-item.is c.in_err-put_after_comma.ensures.err in
    OnErr-always _ _
    (AppendsPrefix-piece _ _ _ (λ x. 44 ∷ g.T.ListItem.text x) c.args.items.now c.loop-item.item-index
    c.item-item.result (omega arith) c.loop-item.invariant here)
