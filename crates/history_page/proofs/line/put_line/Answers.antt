use Rattle.std.specs.Prelude.{codes}
use Rattle.std.specs.List.{flat_map}
use Rattle.std.proofs.Common.{refl}
use Rattle.action_tables.proofs.Prefixes.{AppendsPrefix-first, OnErr-always, OnErr-then}
use Rattle.history_page.specs.Lines.{encoded_byte, line_text}
use Rattle.history_page.proofs.line.put_line.Goals as goal

pub returns-in_err-put_encoded-clause-err : goal.returns-in_err-put_encoded-clause-err
returns-in_err-put_encoded-clause-err g c =
    OnErr-always _ _
    (AppendsPrefix-first _ _ (flat_map encoded_byte c.args.line.now) (codes "\n") c.in_err-put_encoded.ensures.err)

pub returns-clause-err : goal.returns-clause-err
returns-clause-err g c =
    OnErr-then c.put_bytes.result (g.W.Write.contents c.args.out.now) (g.W.Write.contents c.put_encoded.new.out)
    (g.W.Write.contents c.put_bytes.new.out)
    (flat_map encoded_byte c.args.line.now) (codes "\n") (line_text c.args.line.now) refl
    c.in_ok-put_encoded.ensures.ok c.put_bytes.ensures.err
