use Rattle.std.proofs.Common.{◌==◌, true≢false, eqb-true, eq-eqb, get_or, sym, ◌∙◌}
use Rattle.std.proofs.lemmas.List.Quantifiers.{position-Some}
use Rattle.topology.proofs.Ascending.{finds, no_index}
use Rattle.app_invariants.proofs.RouteCounts.{place_found, place_none}
use Rattle.app_invariants.proofs.routes.place_of.Goals as goal

pub returns-in-Some-clause-found : goal.returns-in-Some-clause-found
returns-in-Some-clause-found c =
    let g = c.args.topology.now in
    let members = c.args.members.now in
    let at = position-Some (λ i. i == c.args.id) g.ids c.in-Some.index 0 (sym c.in-Some.ensures) in
    place_found g c.lemma_is_graph.ensures.graph members c.requires.within c.in-Some.index c.args.id (eqb-true _ _ at.1) c.requires.ascending
    c.binary_search.result (finds members c.in-Some.index c.requires.ascending c.binary_search.result c.binary_search.ensures.position)
    c.ok.result c.ok.ensures.value

pub returns-in-Some-clause-none : goal.returns-in-Some-clause-none
returns-in-Some-clause-none c =
    let g = c.args.topology.now in
    let members = c.args.members.now in
    let at = position-Some (λ i. i == c.args.id) g.ids c.in-Some.index 0 (sym c.in-Some.ensures) in
    place_none g c.lemma_is_graph.ensures.graph members c.requires.within c.in-Some.index c.args.id at.0 (eqb-true _ _ at.1) c.requires.ascending
    c.binary_search.result (finds members c.in-Some.index c.requires.ascending c.binary_search.result c.binary_search.ensures.position)
    c.ok.result c.ok.ensures.value

pub returns-in-None-clause-none : goal.returns-in-None-clause-none
returns-in-None-clause-none c =
    λ k k_in same at.
    let g = c.args.topology.now in
    true≢false
    (sym (eq-eqb (get_or g.ids k 0) c.args.id same) ∙ no_index (λ i. i == c.args.id) g.ids c.in-None.ensures k k_in)
