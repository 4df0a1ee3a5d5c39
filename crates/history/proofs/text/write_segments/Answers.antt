use Rattle.std.proofs.Common.{refl}
use Rattle.action_tables.proofs.Prefixes.{AppendsPrefix-first, OnErr-always, OnErr-then, OnOk-then}
use Rattle.history.specs.Segments.{entries_of}
use Rattle.history.specs.HistoryText.{ended, entries_text, first_line, history_text}
use Rattle.history.proofs.text.write_segments.Goals as goal

pub returns-in_err-put_first_line-clause-err : goal.returns-in_err-put_first_line-clause-err
returns-in_err-put_first_line-clause-err g c =
    let es = entries_of c.args.segments.now in
    OnErr-always _ _ (AppendsPrefix-first _ _ (ended (first_line c.args.modulus)) (entries_text es) c.in_err-put_first_line.ensures.err)

pub returns-clause-err : goal.returns-clause-err
returns-clause-err g c =
    let es = entries_of c.args.segments.now in
    OnErr-then c.put_segments.result (g.W.Write.contents c.args.out.now) (g.W.Write.contents c.put_first_line.new.out)
    (g.W.Write.contents c.put_segments.new.out)
    (ended (first_line c.args.modulus)) (entries_text es) (history_text c.args.modulus es) refl
    c.in_ok-put_first_line.ensures.ok c.put_segments.ensures.err

pub returns-clause-ok : goal.returns-clause-ok
returns-clause-ok g c =
    let es = entries_of c.args.segments.now in
    OnOk-then c.put_segments.result (g.W.Write.contents c.args.out.now) (g.W.Write.contents c.put_first_line.new.out)
    (g.W.Write.contents c.put_segments.new.out)
    (ended (first_line c.args.modulus)) (entries_text es) (history_text c.args.modulus es) refl
    c.in_ok-put_first_line.ensures.ok c.put_segments.ensures.ok
