use Rattle.recovery.proofs.Healing.{few_in_all, on_ok, placed_itself}
use Rattle.recovery.proofs.planner.heal_draft.Goals as goal

pub mend_all-requires-clause-placed : goal.mend_all-requires-clause-placed
mend_all-requires-clause-placed g c κs within =
    placed_itself c.forget_all.new.draft.config c.args.target.now c.place_all.new.draft.config
    c.in_ok-place_all.ensures.placed

pub returns-clause-few : goal.returns-clause-few
returns-clause-few g c =
    on_ok c.mend_all.result _ _
    (λ mended. few_in_all c.args.draft.now.config c.args.target.now c.forget_all.new.draft.config c.args.order.now
    _ _ _ _ c.requires.target c.requires.order c.in_ok-forget_all.ensures.few c.in_ok-place_all.ensures.count mended)
    c.mend_all.ensures.count
