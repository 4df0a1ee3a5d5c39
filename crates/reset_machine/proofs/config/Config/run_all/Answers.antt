use Rattle.std.proofs.Common.{arith}
use Rattle.reset_machine.proofs.RunLists.{run_more, length_more}
use Rattle.reset_machine.proofs.config.Config.run_all.Goals as goal

pub loop-event-preserved : goal.loop-event-preserved
loop-event-preserved g c =
    let pushed = rw c.unwrap.ensures at c.push.ensures.items in (
      run_more g.P.Application.app c.args.self.now c.loop-event.self c.attempt.new.self c.args.events.now
          c.loop-event.done.items _ c.loop-event.event-index _ c.attempt.result c.loop-event-test.true
          c.loop-event.invariant.0 c.attempt.ensures.done pushed,
      length_more _ _ c.attempt.result _ pushed c.loop-event.invariant.1,
      omega (arith, c.push.ensures.capacity, c.loop-event.invariant.2),
      λ sound. c.attempt.ensures.sound (c.loop-event.invariant.3 sound),
    )
