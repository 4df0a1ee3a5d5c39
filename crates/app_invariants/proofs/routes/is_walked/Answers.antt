use Rattle.std.proofs.Common.{◌≡◌, ◌<◌, [], length, get_or, sym, ap, ◌∙◌, subst, arith}
use Rattle.std.proofs.lemmas.List.{get_or-map, get_or_default, length-map}
use Rattle.topology.specs.Rows.{row_at}
use Rattle.topology.proofs.Inserting.{rows_of}
use Rattle.app_invariants.specs.Parities.{TellsWalks}
use Rattle.app_invariants.proofs.RouteCounts.{no_walk_out}
use Rattle.app_invariants.proofs.routes.is_walked.Goals as goal

pub has_walk-requires-clause-marks : goal.has_walk-requires-clause-marks
has_walk-requires-clause-marks c =
    let tables = c.args.tables.now in
    let place = c.in-Some.place in
    let marks : row_at (rows_of tables) place ≡ c.as_slice.result.now =
    get_or-map (λ row. row.items) tables place c.index-tables-place.result []
    (omega (arith, c.in-Some.ensures.found.0, c.requires.tables.count, length-map tables (λ row. row.items)))
    ∙ ap (λ row. row.items) (sym c.index-tables-place.is) ∙ sym c.as_slice.ensures.value in
    ap length (sym marks) ∙ (c.requires.tables.each place c.in-Some.ensures.found.0).count

pub returns-in-Some : goal.returns-in-Some
returns-in-Some c =
    let g = c.args.topology.now in
    let tables = c.args.tables.now in
    let place = c.in-Some.place in
    let marks : row_at (rows_of tables) place ≡ c.as_slice.result.now =
    get_or-map (λ row. row.items) tables place c.index-tables-place.result []
    (omega (arith, c.in-Some.ensures.found.0, c.requires.tables.count, length-map tables (λ row. row.items)))
    ∙ ap (λ row. row.items) (sym c.index-tables-place.is) ∙ sym c.as_slice.ensures.value in
    c.has_walk.ensures c.args.entry.now.destination
    (subst (λ d. TellsWalks g d c.as_slice.result.now) c.in-Some.ensures.found.1
    (subst (TellsWalks g (get_or g.ids (get_or c.args.members.now place 0) 0)) marks
    (c.requires.tables.each place c.in-Some.ensures.found.0)))

pub returns-in-None : goal.returns-in-None
returns-in-None c =
    let g = c.args.topology.now in
    let members = c.args.members.now in
    let index = c.args.index in
    let at = c.requires.index in
    let index_in : index < length g.ids =
    subst (λ k. k < length g.ids) (get_or_default members at.0 0 index at.1 ∙ at.2) (c.requires.members.within at.0 0 at.1) in
    no_walk_out g c.lemma_is_graph.ensures.graph members c.requires.members.closed index c.args.entry.now.destination c.args.entry.now.hops index_in at
    c.in-None.ensures.none
