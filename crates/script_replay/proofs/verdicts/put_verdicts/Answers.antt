use Rattle.std.proofs.Common.{arith, subst}
use Rattle.action_tables.specs.Written.{AppendsPrefix}
use Rattle.action_tables.proofs.Prefixes.{OnErr-always}
use Rattle.action_tables.proofs.Pieces.{AppendsPrefix-piece}
use Rattle.script_replay.specs.VerdictText.{Judged, verdict_line}
use Rattle.script_replay.proofs.verdicts.put_verdicts.Goals as goal

pub returns-in_err-put_verdict-clause-err : goal.returns-in_err-put_verdict-clause-err
returns-in_err-put_verdict-clause-err g c =
    let here =
    subst (λ (v : Judged). AppendsPrefix (g.W.Write.contents c.loop-verdict.out) (g.W.Write.contents c.put_verdict.new.out)
    (verdict_line v)) c.verdict-item.is c.in_err-put_verdict.ensures.err in
    OnErr-always _ _
    (AppendsPrefix-piece _ _ _ verdict_line c.args.verdicts.now c.loop-verdict.verdict-index c.verdict-item.result
    (omega arith) c.loop-verdict.invariant here)
