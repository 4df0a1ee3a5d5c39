use Rattle.std.proofs.Common.{◌≡◌, ◌&&◌, ◌==◌, sym, ap, ap₂, ◌∙◌, subst, eqb-true}
use Rattle.std.proofs.lemmas.List.Quantifiers.{position-Some}
use Rattle.app_routes.specs.Entries.{IsAscending}
use Rattle.app_invariants.specs.WrongEntries.{has_nearer}
use Rattle.app_invariants.proofs.States.{state_at}
use Rattle.app_invariants.proofs.routes.leads_nearer.Goals as goal

pub has_nearer-requires : goal.has_nearer-requires
has_nearer-requires c = subst IsAscending (sym c.entries.ensures.value) c.entries.ensures.routes.ascending

pub returns-in-Some : goal.returns-in-Some
returns-in-Some c =
    λ v are.
    let g = c.args.topology.now in
    let entry = c.args.entry.now in
    let near = c.in-Some.near in
    let at = position-Some (λ i. i == entry.next) g.ids near 0 c.in-Some.ensures.found.0 in
    let theirs : c.entries.result.now ≡ v entry.next =
    c.entries.ensures.value ∙ c.index-states-near.is
    ∙ state_at g v c.args.states.now are near _ at.0 ∙ ap v (eqb-true _ _ at.1) in
    c.has_nearer.ensures
    ∙ ap₂ (λ b es. b && has_nearer es entry.destination entry.hops) (sym c.in-Some.ensures.found.1) theirs
