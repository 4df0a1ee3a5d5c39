use Rattle.std.proofs.Common.{◌∙◌, arith, slice_index_or, subst, sym}
use Rattle.topology.specs.Graph.{Graph, IsNode}
use Rattle.recovery.proofs.MendingOut.{all_mended, here_node, one_more_mended}
use Rattle.recovery.proofs.mending.mend_all.Goals as goal

pub mend_one-requires-after_bounds : goal.mend_one-requires-after_bounds
mend_one-requires-after_bounds g c κs within =
    let P : Graph → Type 0 = λ h. IsNode h (slice_index_or c.args.order.now c.loop-at.at-index 0) in
    subst P (sym c.loop-at.invariant.1.keeps.graph)
    (here_node c.args.draft.now.config c.args.target.now c.args.order.now
    (rw (← c.config.ensures) c.lemma_is_graph.ensures.graph) c.requires.target c.requires.order c.requires.placed
    c.loop-at.at-index 0 c.loop-at-test.true)

pub loop-at-preserved : goal.loop-at-preserved
loop-at-preserved g c = (
  c.in_ok-mend_one.ensures.opening ∙ c.loop-at.invariant.0,
  one_more_mended c.args.draft.now.config c.args.target.now c.args.order.now
      (rw (← c.config.ensures) c.lemma_is_graph.ensures.graph) c.requires.target c.requires.order c.requires.placed
      c.loop-at.draft.config c.mend_one.new.draft.config c.loop-at.at-index 0 c.loop-at-test.true
      c.loop-at.invariant.1 c.in_ok-mend_one.ensures.mended,
  omega (arith, c.in_ok-mend_one.ensures.count, c.loop-at.invariant.2),
)

pub returns-clause-sound : goal.returns-clause-sound
returns-clause-sound g c =
    all_mended c.args.draft.now.config c.args.target.now c.args.order.now
    (rw (← c.config.ensures) c.lemma_is_graph.ensures.graph) c.requires.target c.requires.order c.requires.placed
    c.loop-at.draft.config c.loop-at.at-index (omega (arith, c.loop-at-test.false)) c.loop-at.invariant.1
