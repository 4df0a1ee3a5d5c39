use Rattle.std.proofs.Common.{[], ◌++◌}
use Rattle.std.proofs.lemmas.Result.{on_err_weaker}
use Rattle.action_tables.proofs.Prefixes.{AppendsPrefix-first, OnErr-always}
use Rattle.space_time_diagram.specs.Frame.{first_tag, legend, shapes, style}
use Rattle.space_time_diagram.proofs.Sequences.{fourth_failed, second_failed, third_failed}
use Rattle.space_time_diagram.proofs.frame.put_head.Goals as goal

pub returns-in_err-put_first_tag-clause-err : goal.returns-in_err-put_first_tag-clause-err
returns-in_err-put_first_tag-clause-err g c =
    let first = first_tag c.args.lanes c.args.count in
    OnErr-always _ _ (AppendsPrefix-first _ _ first (style ++ (shapes ++ (legend ++ [])))
    c.in_err-put_first_tag.ensures.err)

pub returns-in_err-put_style-clause-err : goal.returns-in_err-put_style-clause-err
returns-in_err-put_style-clause-err g c =
    let first = first_tag c.args.lanes c.args.count in
    OnErr-always _ _ (second_failed _ _ _ first style (shapes ++ (legend ++ []))
    c.in_ok-put_first_tag.ensures.ok c.in_err-put_style.ensures.err)

pub returns-in_err-put_shapes-clause-err : goal.returns-in_err-put_shapes-clause-err
returns-in_err-put_shapes-clause-err g c =
    let first = first_tag c.args.lanes c.args.count in
    OnErr-always _ _ (third_failed _ _ _ _ first style shapes (legend ++ []) c.in_ok-put_first_tag.ensures.ok
    c.in_ok-put_style.ensures.ok c.in_err-put_shapes.ensures.err)

pub returns-clause-err : goal.returns-clause-err
returns-clause-err g c =
    let first = first_tag c.args.lanes c.args.count in
    on_err_weaker _ (λ h. fourth_failed _ _ _ _ _ first style shapes legend []
    c.in_ok-put_first_tag.ensures.ok c.in_ok-put_style.ensures.ok c.in_ok-put_shapes.ensures.ok h)
    c.put_legend.ensures.err
