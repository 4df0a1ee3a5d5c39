use Rattle.std.proofs.Common.{◌++◌, refl}
use Rattle.action_tables.proofs.Prefixes.{AppendsPrefix-first, OnErr-always, OnErr-then}
use Rattle.script_replay.specs.Marked.{number_text}
use Rattle.script_replay.proofs.marked.put_marked.Goals as goal

pub returns-in_err-put_line_number-clause-err : goal.returns-in_err-put_line_number-clause-err
returns-in_err-put_line_number-clause-err g c =
    OnErr-always _ _
    (AppendsPrefix-first _ _ (number_text c.args.marks c.args.number c.args.text.now) c.args.text.now
    c.in_err-put_line_number.ensures.err)

pub returns-clause-err : goal.returns-clause-err
returns-clause-err g c =
    OnErr-then c.put_bytes.result (g.W.Write.contents c.args.out.now) (g.W.Write.contents c.put_line_number.new.out)
    (g.W.Write.contents c.put_bytes.new.out) (number_text c.args.marks c.args.number c.args.text.now) c.args.text.now
    (number_text c.args.marks c.args.number c.args.text.now ++ c.args.text.now) refl
    c.in_ok-put_line_number.ensures.ok c.put_bytes.ensures.err
