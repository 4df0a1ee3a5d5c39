use Rattle.std.proofs.Common.{◌≡◌, ◌+◌, length, sym, ◌∙◌, subst}
use Rattle.std.proofs.lemmas.List.{length-map}
use Rattle.std.proofs.lemmas.Result.{IfOk-weaker}
use Rattle.topology.specs.Rows.{AreRows}
use Rattle.topology.specs.Searching.{AreDistances}
use Rattle.topology.proofs.Inserting.{rows_of}
use Rattle.app_invariants.proofs.Doubling.{are_rows}
use Rattle.app_invariants.proofs.ParityWalks.{tells_walks}
use Rattle.app_invariants.proofs.parities.table_of.Goals as goal

pub distances_to-requires-clause-rows : goal.distances_to-requires-clause-rows
distances_to-requires-clause-rows c =
    let g = c.args.topology.now in
    let rows = c.args.rows.now in
    let long : length g.ids + length g.ids ≡ length rows =
    sym c.requires.rows.count ∙ length-map rows (λ row. row.items) in
    subst (λ m. AreRows m (rows_of rows)) long
    (are_rows g c.lemma_is_graph.ensures.graph (rows_of rows) c.requires.rows)

pub returns : goal.returns
returns c =
    let g = c.args.topology.now in
    let rows = c.args.rows.now in
    let long : length rows ≡ length g.ids + length g.ids =
    sym (length-map rows (λ row. row.items)) ∙ c.requires.rows.count in
    IfOk-weaker c.distances_to.result _ _
    (λ marks found.
    tells_walks g c.lemma_is_graph.ensures.graph (rows_of rows) c.requires.rows c.args.index c.requires.index marks.items
    (subst (λ m. AreDistances m (rows_of rows) c.args.index marks.items) long found))
    c.distances_to.ensures
