use Rattle.std.proofs.Common.{◌∙◌, arith}
use Rattle.recovery.proofs.Outward.{all_first, next_is, one_more}
use Rattle.recovery.proofs.placing.place_all.Goals as goal

pub place_node-requires-clause-next : goal.place_node-requires-clause-next
place_node-requires-clause-next g c κs within =
    next_is c.args.draft.now.config c.args.target.now c.args.order.now c.requires.target c.requires.order
    c.loop-at.draft.config c.loop-at.at-index 0 c.loop-at-test.true c.loop-at.invariant.1

pub loop-at-preserved : goal.loop-at-preserved
loop-at-preserved g c = (
  c.in_ok-place_node.ensures.opening ∙ c.loop-at.invariant.0,
  one_more c.args.draft.now.config c.args.target.now c.args.order.now c.requires.target c.requires.order
      c.loop-at.draft.config c.loop-at.at-index 0 c.loop-at-test.true c.loop-at.invariant.1
      c.place_node.new.draft.config c.in_ok-place_node.ensures.places,
  omega (arith, c.in_ok-place_node.ensures.count, c.loop-at.invariant.2),
)

pub returns-clause-placed : goal.returns-clause-placed
returns-clause-placed g c =
    all_first c.args.draft.now.config c.args.target.now c.args.order.now c.requires.target c.requires.order
    c.loop-at.draft.config c.loop-at.at-index (omega (arith, c.loop-at-test.false)) c.loop-at.invariant.1
