use Rattle.std.proofs.Common.{◌≡◌, ap, sym, ◌∙◌}
use Rattle.std.proofs.lemmas.Bool.{false≢true}
use Rattle.node_threads.specs.Seats.{of_node}
use Rattle.node_threads.proofs.Comparing.{all_next, differs_first}
use Rattle.node_threads.proofs.closing.compared.Goals as goal

pub loop-seat-preserved : goal.loop-seat-preserved
loop-seat-preserved g c =
    let told = c.args.told.now in
    let own = c.deref.ensures.value ∙ c.in-Ok.ensures ∙ ap (λ i. of_node i told) c.node.ensures in
    all_next (λ s. s.receipts ≡ of_node s.node told) c.args.seats.now c.loop-seat.seat-index c.seat-item.result
    c.loop-seat-test.true c.seat-item.is
    (sym c.receipts.ensures.value ∙ (sym (c.same_receipts.ensures.0 c.if-not-same_receipts.false) ∙ own))
    c.loop-seat.invariant

pub returns-then-not-same_receipts-clause-differs : goal.returns-then-not-same_receipts-clause-differs
returns-then-not-same_receipts-clause-differs g c =
    let told = c.args.told.now in
    let own = c.deref.ensures.value ∙ c.in-Ok.ensures ∙ ap (λ i. of_node i told) c.node.ensures in
    λ i is.
    let node : i ≡ c.node-then-not-same_receipts.result = cc in
    differs_first told c.args.seats.now c.loop-seat.seat-index c.seat-item.result i c.loop-seat-test.true c.seat-item.is
    (λ same. absurd (false≢true (sym c.if-not-same_receipts.true ∙ c.same_receipts.ensures.1 (own ∙ (sym same
    ∙ sym c.receipts.ensures.value))))) (node ∙ c.node-then-not-same_receipts.ensures) c.loop-seat.invariant
