use Rattle.std.proofs.Common.{◌++◌, ◌∷◌, ◌∙◌, [], ap, rules}
use Rattle.node_threads.specs.Seats.{empty_seat}
use Rattle.reset_model.proofs.Collected.{mapped_more}
use Rattle.node_threads.proofs.sharing.seat_all.Goals as goal

pub loop-id-preserved : goal.loop-id-preserved
loop-id-preserved g c = (
  mapped_more c.args.ids.now c.loop-id.id-index _ c.loop-id-test.true (search rules) empty_seat _ _
      c.loop-id.invariant.0
      (c.push_reserved.ensures.items ∙ ap (λ s. c.loop-id.seats.items ++ s ∷ []) c.new.ensures),
  search rules,
  search rules,
  search rules,
)
