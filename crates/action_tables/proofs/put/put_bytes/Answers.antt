use Rattle.std.proofs.Common.{◌-◌, ◌++◌, length, take, drop, sym, ap, ◌∙◌, take-append-drop}
use Rattle.std.proofs.lemmas.List.{take_rest}
use Rattle.action_tables.proofs.Prefixes.{OnErr-then}
use Rattle.action_tables.proofs.put.put_bytes.Goals as goal

pub returns-in-Ok-2-clause-err : goal.returns-in-Ok-2-clause-err
returns-in-Ok-2-clause-err g c =
    let bytes = c.args.bytes.now in
    let n = c.in-Ok.count in
    OnErr-then c.put_rest.result (g.W.Write.contents c.args.out.now) (g.W.Write.contents c.write.new.self)
    (g.W.Write.contents c.put_rest.new.out) (take n bytes) (take (length bytes - n) (drop n bytes)) bytes
    (sym (take-append-drop n bytes) ∙ ap (λ l. take n bytes ++ l) (sym (take_rest bytes n)))
    c.in-Ok.ensures.bytes c.put_rest.ensures.err
