use Rattle.std.proofs.Common.{◌∙◌, arith, slice_index_or}
use Rattle.recovery.proofs.Outward.{item_node}
use Rattle.recovery.proofs.Renewed.{one_restarts}
use Rattle.recovery.proofs.Restarted.{all_restarted}
use Rattle.recovery.proofs.WaveMoves.{node_on}
use Rattle.recovery.proofs.resetting.restart_all.Goals as goal

pub restart_one-requires-after_bounds : goal.restart_one-requires-after_bounds
restart_one-requires-after_bounds g c κs within =
    let old = c.args.draft.now.config in
    node_on old c.loop-at.draft.config c.loop-at.invariant.1.keeps (slice_index_or c.args.order.now c.loop-at.at-index 0)
    (item_node old c.args.order.now c.requires.order c.loop-at.at-index 0 c.loop-at-test.true)

pub loop-at-preserved : goal.loop-at-preserved
loop-at-preserved g c =
    let now = c.loop-at.draft in
    let done = c.in_ok-restart_one.ensures in (
      done.opening ∙ c.loop-at.invariant.0,
      one_restarts g.P.Application.app c.args.draft.now.config (rw (← c.config.ensures) c.lemma_is_graph.ensures.graph)
          c.requires.sound c.args.order.now c.requires.order c.requires.joined c.requires.none c.loop-at.at-index 0
          c.loop-at-test.true now c.restart_one.new.draft c.loop-at.invariant.1 done.leader done.below,
      omega (arith, done.count, c.loop-at.invariant.2),
    )

pub returns-clause-anew : goal.returns-clause-anew
returns-clause-anew g c =
    all_restarted g.P.Application.app c.args.draft.now.config c.loop-at.draft.config c.loop-at.draft.events
    c.args.order.now c.loop-at.at-index c.requires.order (omega (arith, c.loop-at-test.false)) c.loop-at.invariant.1
