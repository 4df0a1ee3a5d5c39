use Rattle.std.proofs.Common.{◌≡◌, ◌≤◌, ◌<◌, not, length, get_or, sym, ap, ◌∙◌, subst, arith}
use Rattle.std.specs.List.{count_by}
use Rattle.std.proofs.lemmas.List.{get_or_default, take_all}
use Rattle.app_routes.specs.Entries.{AreRoutes}
use Rattle.app_invariants.specs.WrongEntries.{is_route}
use Rattle.app_invariants.proofs.Nearer.{few_entries}
use Rattle.app_invariants.proofs.RouteCounts.{wrong_ascending}
use Rattle.app_invariants.proofs.States.{state_at}
use Rattle.app_invariants.proofs.routes.wrong_at.Goals as goal

pub returns-clause-count : goal.returns-clause-count
returns-clause-count c =
    λ v are.
    let g = c.args.topology.now in
    let index = c.args.index in
    let at = c.requires.index in
    let index_in : index < length g.ids =
    subst (λ k. k < length g.ids) (get_or_default c.args.members.now at.0 0 index at.1 ∙ at.2)
    (c.requires.prepared.are_members.within at.0 0 at.1) in
    let i = get_or g.ids index 0 in
    let own : c.entries-entry-items.result.now ≡ v i =
    c.entries-entry-items.ensures.value ∙ c.index-states-index.is ∙ state_at g v c.args.states.now are index _ index_in in
    let routes : AreRoutes (v i) =
    subst AreRoutes (sym c.entries-entry-items.ensures.value ∙ own) c.entries-entry-items.ensures.routes in
    c.loop-entry.invariant.so_far v are
    ∙ ap (count_by (λ e. not (is_route g v i e)))
    (take_all c.loop-entry.entry-index c.entries-entry-items.result.now c.loop-entry-test.false ∙ own)
    ∙ wrong_ascending g v i routes.ascending

pub returns-clause-small : goal.returns-clause-small
returns-clause-small c =
    let few : length c.entries-entry-items.result.now ≤ 65535 =
    few_entries c.entries-entry-items.result.now
    (subst AreRoutes (sym c.entries-entry-items.ensures.value) c.entries-entry-items.ensures.routes) in
    omega (arith, few, c.loop-entry.invariant.small, c.loop-entry.auto.entry-index-end)
