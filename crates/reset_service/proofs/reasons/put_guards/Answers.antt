use Rattle.std.proofs.Common.{sym, subst}
use Rattle.std.specs.Io.KnownBytes.{Appends}
use Rattle.std.proofs.lemmas.Result.{on_err_weaker, on_ok_weaker}
use Rattle.action_tables.specs.Written.{AppendsPrefix}
use Rattle.reset_service.proofs.Reasoning.{tree_guards, wave_guards}
use Rattle.reset_service.proofs.reasons.put_guards.Goals as goal

pub returns-then-is_of_tree-clause-ok : goal.returns-then-is_of_tree-clause-ok
returns-then-is_of_tree-clause-ok g c =
    on_ok_weaker c.put_guards_among.result
    (λ wrote v w. subst (Appends (g.W.Write.contents c.args.out.now) (g.W.Write.contents c.put_guards_among.new.out))
    (tree_guards c.args.event c.cases.result.now c.tree_rows.result c.cases.ensures (sym c.if-is_of_tree.ensures)
    c.tree_rows.ensures v w) wrote) c.put_guards_among.ensures.ok

pub returns-then-is_of_tree-clause-err : goal.returns-then-is_of_tree-clause-err
returns-then-is_of_tree-clause-err g c =
    on_err_weaker c.put_guards_among.result
    (λ wrote v w.
    subst (AppendsPrefix (g.W.Write.contents c.args.out.now) (g.W.Write.contents c.put_guards_among.new.out))
    (tree_guards c.args.event c.cases.result.now c.tree_rows.result c.cases.ensures (sym c.if-is_of_tree.ensures)
    c.tree_rows.ensures v w) wrote) c.put_guards_among.ensures.err

pub returns-else-is_of_tree-clause-ok : goal.returns-else-is_of_tree-clause-ok
returns-else-is_of_tree-clause-ok g c =
    on_ok_weaker c.put_guards_among-else-is_of_tree.result
    (λ wrote v w.
    subst (Appends (g.W.Write.contents c.args.out.now) (g.W.Write.contents c.put_guards_among-else-is_of_tree.new.out))
    (wave_guards c.args.event c.cases-else-is_of_tree.result.now c.wave_rows.result c.cases-else-is_of_tree.ensures
    (sym c.if-is_of_tree.ensures) c.wave_rows.ensures v w) wrote) c.put_guards_among-else-is_of_tree.ensures.ok

pub returns-else-is_of_tree-clause-err : goal.returns-else-is_of_tree-clause-err
returns-else-is_of_tree-clause-err g c =
    on_err_weaker c.put_guards_among-else-is_of_tree.result
    (λ wrote v w.
    subst
    (AppendsPrefix (g.W.Write.contents c.args.out.now) (g.W.Write.contents c.put_guards_among-else-is_of_tree.new.out))
    (wave_guards c.args.event c.cases-else-is_of_tree.result.now c.wave_rows.result c.cases-else-is_of_tree.ensures
    (sym c.if-is_of_tree.ensures) c.wave_rows.ensures v w) wrote) c.put_guards_among-else-is_of_tree.ensures.err
