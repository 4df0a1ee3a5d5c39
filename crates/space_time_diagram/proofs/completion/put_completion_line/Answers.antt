use Rattle.std.proofs.Common.{[], rules, ◌++◌}
use Rattle.std.proofs.lemmas.Result.{on_err_weaker}
use Rattle.action_tables.proofs.Prefixes.{AppendsPrefix-first, OnErr-always}
use Rattle.space_time_diagram.proofs.LineParts.{line_parts}
use Rattle.space_time_diagram.proofs.Sequences.{fourth_failed, second_failed, third_failed}
use Rattle.space_time_diagram.proofs.completion.put_completion_line.Goals as goal

pub returns-in_err-put_tag-clause-err : goal.returns-in_err-put_tag-clause-err
returns-in_err-put_tag-clause-err g c =
    let l =
    line_parts c.args.opening.now c.args.nodes.now c.args.topology.now c.args.node c.args.before c.args.report in
    OnErr-always _ _ (AppendsPrefix-first _ _ l.tag (l.words ++ (l.pieces ++ (l.last ++ []))) (search rules))

pub returns-in_err-put_title-clause-err : goal.returns-in_err-put_title-clause-err
returns-in_err-put_title-clause-err g c =
    let l =
    line_parts c.args.opening.now c.args.nodes.now c.args.topology.now c.args.node c.args.before c.args.report in
    OnErr-always _ _ (second_failed _ (g.W.Write.contents c.put_tag.new.out) _ l.tag l.words
    (l.pieces ++ (l.last ++ [])) (search rules) (search rules))

pub returns-in_err-put_pieces-clause-err : goal.returns-in_err-put_pieces-clause-err
returns-in_err-put_pieces-clause-err g c =
    let l =
    line_parts c.args.opening.now c.args.nodes.now c.args.topology.now c.args.node c.args.before c.args.report in
    OnErr-always _ _ (third_failed _ (g.W.Write.contents c.put_tag.new.out) (g.W.Write.contents c.put_title.new.out) _
    l.tag l.words l.pieces (l.last ++ []) (search rules) (search rules) (search rules))

pub returns-clause-err : goal.returns-clause-err
returns-clause-err g c =
    let l =
    line_parts c.args.opening.now c.args.nodes.now c.args.topology.now c.args.node c.args.before c.args.report in
    on_err_weaker _ (λ h. fourth_failed _ (g.W.Write.contents c.put_tag.new.out)
    (g.W.Write.contents c.put_title.new.out) (g.W.Write.contents c.put_pieces.new.out) _ l.tag l.words l.pieces l.last
    [] (search rules) (search rules) (search rules) h)
    (rw c.right_end.ensures at c.put_end.ensures.err)
