use Rattle.std.proofs.Common.{◌<◌, length, arith}
use Rattle.reset_machine.proofs.StepClauses.{start_is, start_more}
use Rattle.reset_machine.proofs.nodes.start_all.Goals as goal

pub loop-index-preserved : goal.loop-index-preserved
loop-index-preserved g c =
    let ids = c.args.topology.now.ids in
    let start = g.P.Application.app.start c.args.topology.now in
    let short : c.loop-index.index < length ids = omega (arith, c.loop-index-test.true, c.len-index-end.ensures) in
    start_more start ids c.loop-index.index _ _ c.in_ok-on_start.field-0 short
    (start_is start ids c.loop-index.index _ short c.in_ok-on_start.ensures) c.in_ok-push.ensures.items
    c.loop-index.invariant
