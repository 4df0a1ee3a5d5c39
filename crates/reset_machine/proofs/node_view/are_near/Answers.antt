use Rattle.std.proofs.Common.{◌<◌, length, map, slice_index_or, sym, ap, ◌∙◌, arith}
use Rattle.std.proofs.lemmas.Bool.{false≢true}
use Rattle.reset_model.specs.View.{near_of}
use Rattle.reset_machine.proofs.NearSeen.{at_number}
use Rattle.reset_machine.proofs.node_view.are_near.Goals as goal

pub returns-then-not-is_at : goal.returns-then-not-is_at
returns-then-not-is_at g c =
    let config = c.args.place.now.config in
    let f = near_of g.P.Application.app config in
    let indexes = c.neighbours-indexes.result.now in
    let short : c.loop-number.number < length indexes =
    omega (arith, c.if-near-indexes.false, c.loop-number-test.true) in (
      λ is. absurd (false≢true is),
      λ is. c.if-not-is_at.ensures.1
          (c.index-near-number.is
          ∙ ap (λ l. slice_index_or l c.loop-number.number c.index-near-number.result)
          (is ∙ sym (ap (map f) c.neighbours-indexes.ensures.ids))
          ∙ at_number f config.graph.ids indexes c.loop-number.number c.index-near-number.result short),
    )
