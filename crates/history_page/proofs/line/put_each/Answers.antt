use Rattle.std.proofs.Common.{arith}
use Rattle.action_tables.proofs.Prefixes.{OnErr-always}
use Rattle.action_tables.proofs.Pieces.{AppendsPrefix-piece}
use Rattle.history_page.specs.Lines.{encoded_byte}
use Rattle.history_page.proofs.line.put_each.Goals as goal

pub returns-in_err-put_encoded_byte-clause-err : goal.returns-in_err-put_encoded_byte-clause-err
returns-in_err-put_encoded_byte-clause-err g c =
    OnErr-always _ _
    (AppendsPrefix-piece _ _ _ encoded_byte c.args.line.now c.loop-byte.byte-index _ (omega arith)
    c.loop-byte.invariant c.in_err-put_encoded_byte.ensures.err)
