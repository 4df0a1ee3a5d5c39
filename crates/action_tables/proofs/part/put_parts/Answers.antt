use Rattle.std.proofs.Common.{subst, arith}
use Rattle.action_tables.proofs.Prefixes.{OnErr-always}
use Rattle.action_tables.proofs.Pieces.{AppendsPrefix-piece}
use Rattle.action_tables.specs.declared.part.Part.{Part}
use Rattle.action_tables.specs.RowText.{part_text}
use Rattle.action_tables.specs.Written.{AppendsPrefix}
use Rattle.action_tables.proofs.part.put_parts.Goals as goal

pub returns-in_err-put_part-clause-err : goal.returns-in_err-put_part-clause-err
returns-in_err-put_part-clause-err g c =
    let here =
    subst (λ (p : Part). AppendsPrefix (g.W.Write.contents c.loop-part.out) (g.W.Write.contents c.put_part.new.out)
    (part_text p)) c.part-item.is c.in_err-put_part.ensures.err in
    OnErr-always _ _
    (AppendsPrefix-piece _ _ _ part_text c.args.parts.now c.loop-part.part-index c.part-item.result (omega arith)
    c.loop-part.invariant here)
