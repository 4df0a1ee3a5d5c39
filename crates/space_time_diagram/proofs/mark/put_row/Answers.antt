use Rattle.std.proofs.Common.{◌++◌}
use Rattle.std.proofs.lemmas.Result.{on_err_weaker}
use Rattle.action_tables.proofs.Prefixes.{AppendsPrefix-first, AppendsPrefix-then, OnErr-always}
use Rattle.space_time_diagram.specs.Marks.{link_between, mark_on, number_text}
use Rattle.space_time_diagram.proofs.Sequences.{second_failed}
use Rattle.space_time_diagram.proofs.mark.put_row.Goals as goal

pub returns-in_err-put_link-clause-err : goal.returns-in_err-put_link-clause-err
returns-in_err-put_link-clause-err g c =
    let a = c.args in
    let link = link_between a.lane a.end a.y a.number a.line.now in
    let mark = mark_on a.lane a.kind.now a.y a.number a.line.now in
    OnErr-always _ _
    (AppendsPrefix-first _ _ link (mark ++ number_text a.y a.number) c.in_err-put_link.ensures.err)

pub returns-in_err-put_mark_on-clause-err : goal.returns-in_err-put_mark_on-clause-err
returns-in_err-put_mark_on-clause-err g c =
    let a = c.args in
    let link = link_between a.lane a.end a.y a.number a.line.now in
    let mark = mark_on a.lane a.kind.now a.y a.number a.line.now in
    OnErr-always _ _
    (second_failed _ _ _ link mark (number_text a.y a.number) c.in_ok-put_link.ensures.ok
    c.in_err-put_mark_on.ensures.err)

pub returns-clause-err : goal.returns-clause-err
returns-clause-err g c =
    let a = c.args in
    let link = link_between a.lane a.end a.y a.number a.line.now in
    let mark = mark_on a.lane a.kind.now a.y a.number a.line.now in
    on_err_weaker _ (λ h. AppendsPrefix-then _ _ _ link (mark ++ number_text a.y a.number) c.in_ok-put_link.ensures.ok
    (AppendsPrefix-then _ _ _ mark (number_text a.y a.number) c.in_ok-put_mark_on.ensures.ok h))
    c.put_number_text.ensures.err
