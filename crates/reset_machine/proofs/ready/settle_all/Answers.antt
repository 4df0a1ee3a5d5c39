use Rattle.std.proofs.Common.{arith}
use Rattle.reset_machine.proofs.Locality.{known_settled}
use Rattle.reset_machine.proofs.ready.settle_all.Goals as goal

pub loop-index-preserved : goal.loop-index-preserved
loop-index-preserved g c =
    known_settled g.P.Application.app c.args.nodes.now c.loop-index.standing c.settle.new.self c.in_ok-ready.ready
    c.in-Some.index c.in-Some.ensures.last.0 c.in_ok-ready.ensures c.loop-index.invariant c.settle.ensures

pub loop-index-smaller : goal.loop-index-smaller
loop-index-smaller g c = omega (arith, c.settle.ensures.fewer, c.in-Some.ensures.some)
