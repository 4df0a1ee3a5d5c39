use Rattle.std.proofs.Common.{ap, ◌∙◌, subst, sym}
use Rattle.std.proofs.lemmas.List.{map_push}
use Rattle.topology.proofs.Inserting.{rows_of}
use Rattle.app_invariants.specs.Parities.{ShiftsNear}
use Rattle.app_invariants.proofs.Doubling.{push_row, shifts}
use Rattle.app_invariants.proofs.parities.push_shifted.Goals as goal

pub loop-index-preserved : goal.loop-index-preserved
loop-index-preserved c =
    let g = c.args.topology.now in
    let i = c.loop-index.index in
    let near = c.neighbours.ensures in
    push_row g c.args.shift i (rows_of c.args.rows.now.items) (rows_of c.loop-index.rows.items) c.loop-index.invariant
    c.in_ok-shifted.field-0.items
    (subst (ShiftsNear g c.args.shift i) (sym c.in_ok-shifted.ensures)
    (shifts g c.lemma_is_graph.ensures.graph c.args.shift i c.neighbours.result.now near.ids near.within near.ascending))
    (rows_of c.push.new.self.items)
    (ap rows_of c.in_ok-push.ensures.items ∙ map_push (λ row. row.items) c.loop-index.rows.items c.in_ok-shifted.field-0)
