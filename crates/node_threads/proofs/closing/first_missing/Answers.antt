use Rattle.std.proofs.Common.{not, sym, ap, ◌∙◌}
use Rattle.std.proofs.lemmas.Bool.{cond-false}
use Rattle.std.proofs.lemmas.List.{at_drop_more}
use Rattle.node_threads.specs.Closed.{first_missing}
use Rattle.node_threads.proofs.closing.first_missing.Goals as goal

pub loop-id-preserved : goal.loop-id-preserved
loop-id-preserved g c =
    sym (cond-false _ _ _ (ap not (sym c.is_seated.ensures ∙ c.if-not-is_seated.false)))
    ∙ sym (at_drop_more (λ ids. first_missing ids c.args.seats.now) c.args.ids.now c.loop-id.id-index 0
    c.loop-id-test.true)
    ∙ c.loop-id.invariant
