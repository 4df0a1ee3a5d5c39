use Rattle.std.proofs.Common.{arith}
use Rattle.action_tables.proofs.Prefixes.{OnErr-always}
use Rattle.action_tables.proofs.Pieces.{AppendsPrefix-piece}
use Rattle.applications.specs.Meaning.{meaning_of}
use Rattle.reset_service.specs.Reasons.{line_there}
use Rattle.reset_service.proofs.reasons.put_nodes.Goals as goal

pub returns-in_err-put_node-clause-err : goal.returns-in_err-put_node-clause-err
returns-in_err-put_node-clause-err g c =
    let m =
    meaning_of g.P.Application.app g.P.Application.text g.P.Application.from_text g.P.Application.names
    g.P.Invariant.counts in
    OnErr-always _ _
    (AppendsPrefix-piece _ _ _ (line_there m c.args.config.now) c.args.ids.now c.loop-id.id-index _ (omega arith)
    c.loop-id.invariant c.in_err-put_node.ensures.err)
