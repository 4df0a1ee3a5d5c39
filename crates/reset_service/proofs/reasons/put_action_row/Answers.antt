use Rattle.std.proofs.Common.{List, ◌++◌, subst}
use Rattle.std.specs.Io.KnownBytes.{Appends}
use Rattle.std.proofs.KnownBytes.{Appends-trans}
use Rattle.std.proofs.lemmas.Result.{on_err_weaker, on_ok_weaker}
use Rattle.action_tables.specs.Table.{PrintedRow}
use Rattle.action_tables.specs.Written.{AppendsPrefix}
use Rattle.action_tables.proofs.Prefixes.{AppendsPrefix-first, AppendsPrefix-then, OnErr-always}
use Rattle.reset_service.specs.Reasons.{mutex_rows, named_lines, routes_rows, token_rows}
use Rattle.reset_service.proofs.Reasoning.{of_mutex, of_routes, of_token}
use Rattle.reset_service.proofs.reasons.put_action_row.Goals as goal

pub returns-in_err-put_named-clause-err : goal.returns-in_err-put_named-clause-err
returns-in_err-put_named-clause-err g c =
    let n = c.args.name.now in
    let a = g.W.Write.contents c.args.out.now in
    let b = g.W.Write.contents c.put_named.new.out in
    OnErr-always _ _
    (AppendsPrefix-first a b (named_lines n token_rows) (named_lines n mutex_rows ++ named_lines n routes_rows)
    (subst (λ (rs : List PrintedRow). AppendsPrefix a b (named_lines n rs)) (of_token c.app_rows.result c.app_rows.ensures)
    c.in_err-put_named.ensures.err))

pub returns-in_err-put_named-2-clause-err : goal.returns-in_err-put_named-2-clause-err
returns-in_err-put_named-2-clause-err g c =
    let n = c.args.name.now in
    let a = g.W.Write.contents c.args.out.now in
    let b = g.W.Write.contents c.put_named.new.out in
    let d = g.W.Write.contents c.put_named-2.new.out in
    OnErr-always _ _
    (AppendsPrefix-then a b d (named_lines n token_rows) (named_lines n mutex_rows ++ named_lines n routes_rows)
    (subst (λ (rs : List PrintedRow). Appends a b (named_lines n rs)) (of_token c.app_rows.result c.app_rows.ensures)
    c.in_ok-put_named.ensures.ok)
    (AppendsPrefix-first b d (named_lines n mutex_rows) (named_lines n routes_rows)
    (subst (λ (rs : List PrintedRow). AppendsPrefix b d (named_lines n rs))
    (of_mutex c.app_rows-2.result c.app_rows-2.ensures) c.in_err-put_named-2.ensures.err)))

pub returns-clause-ok : goal.returns-clause-ok
returns-clause-ok g c =
    let n = c.args.name.now in
    let a = g.W.Write.contents c.args.out.now in
    let b = g.W.Write.contents c.put_named.new.out in
    let d = g.W.Write.contents c.put_named-2.new.out in
    let e = g.W.Write.contents c.put_named-3.new.out in
    on_ok_weaker c.put_named-3.result
    (λ wrote. Appends-trans a b e (named_lines n token_rows) (named_lines n mutex_rows ++ named_lines n routes_rows)
    (subst (λ (rs : List PrintedRow). Appends a b (named_lines n rs)) (of_token c.app_rows.result c.app_rows.ensures)
    c.in_ok-put_named.ensures.ok)
    (Appends-trans b d e (named_lines n mutex_rows) (named_lines n routes_rows)
    (subst (λ (rs : List PrintedRow). Appends b d (named_lines n rs)) (of_mutex c.app_rows-2.result c.app_rows-2.ensures)
    c.in_ok-put_named-2.ensures.ok)
    (subst (λ (rs : List PrintedRow). Appends d e (named_lines n rs)) (of_routes c.app_rows-3.result c.app_rows-3.ensures)
    wrote))) c.put_named-3.ensures.ok

pub returns-clause-err : goal.returns-clause-err
returns-clause-err g c =
    let n = c.args.name.now in
    let a = g.W.Write.contents c.args.out.now in
    let b = g.W.Write.contents c.put_named.new.out in
    let d = g.W.Write.contents c.put_named-2.new.out in
    let e = g.W.Write.contents c.put_named-3.new.out in
    on_err_weaker c.put_named-3.result
    (λ wrote. AppendsPrefix-then a b e (named_lines n token_rows) (named_lines n mutex_rows ++ named_lines n routes_rows)
    (subst (λ (rs : List PrintedRow). Appends a b (named_lines n rs)) (of_token c.app_rows.result c.app_rows.ensures)
    c.in_ok-put_named.ensures.ok)
    (AppendsPrefix-then b d e (named_lines n mutex_rows) (named_lines n routes_rows)
    (subst (λ (rs : List PrintedRow). Appends b d (named_lines n rs)) (of_mutex c.app_rows-2.result c.app_rows-2.ensures)
    c.in_ok-put_named-2.ensures.ok)
    (subst (λ (rs : List PrintedRow). AppendsPrefix d e (named_lines n rs))
    (of_routes c.app_rows-3.result c.app_rows-3.ensures) wrote))) c.put_named-3.ensures.err
