use Rattle.std.proofs.Common.{arith}
use Rattle.action_tables.proofs.Prefixes.{OnErr-always}
use Rattle.action_tables.proofs.Pieces.{AppendsPrefix-piece}
use Rattle.space_time_diagram.specs.Marks.{escaped_byte}
use Rattle.space_time_diagram.proofs.escape.put_escaped.Goals as goal

pub returns-in_err-put_escaped_byte-clause-err : goal.returns-in_err-put_escaped_byte-clause-err
returns-in_err-put_escaped_byte-clause-err g c =
    OnErr-always _ _
    (AppendsPrefix-piece _ _ _ escaped_byte c.args.text.now c.loop-byte.byte-index _ (omega arith)
    c.loop-byte.invariant c.in_err-put_escaped_byte.ensures.err)
