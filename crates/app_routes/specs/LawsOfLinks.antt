-- Where every entry is a route, every link is good at both ends.
use Rattle.std.proofs.Common.{◌≡◌, ℕ, ◌<◌, ◌≤◌, Bool, true, false, eqb, ltb, List, Some, None, length, Contains, refl}
use Rattle.std.proofs.Common.{sym, ap, ◌∙◌, subst, arith, eqb-true, true≢false}
use Rattle.std.specs.List.{list_any}
use Rattle.std.specs.Option.{is_none}
use Rattle.std.proofs.lemmas.Bool.{and_parts, false_from_ne_true, ltb-true}
use Rattle.std.proofs.lemmas.List.Folds.{Any-from_list_any}
use Rattle.action_tables.specs.Table.{enabled_of}
use Rattle.topology.specs.Graph.{Graph, IsGraph, IsNode, AreLinked}
use Rattle.app_interface.specs.Invariant.{IsQuiet}
use Rattle.app_routes.specs.Entries.{route_of}
use Rattle.app_routes.specs.LawsOfEntries.{found}
use Rattle.app_routes.specs.Routes.{routes}
use Rattle.app_routes.specs.RoutesLinks.{leads_no_nearer, leads_nowhere, leads_over, routes_link_fault}
use Rattle.app_routes.specs.Ways.{HasNearer, HasRoutes}
use Rattle.app_routes.specs.declared.entry.Entry.{Entry}

-- a test that fails at each entry finds none
none_passes : (p : Entry → Bool) (es : List Entry) →
    ((e : Entry) → Contains es e → p e ≡ true → ⊥) → list_any p es ≡ false
none_passes p es never =
    false_from_ne_true _ (λ some. let any = Any-from_list_any p es some in never any.1 (any.0, any.2, any.3) any.4)

module _ (g : Graph) (are : IsGraph g) (v : ℕ → List Entry) (inv : HasRoutes g v) (i j : ℕ)
    (linked : AreLinked g i j) where
  -- j is nearer to where the entries over it lead
  nearer : (e : Entry) → Contains (v i) e → leads_over j e ≡ true →
      (f : Entry) × (route_of (v j) e.destination ≡ Some f) × (f.hops < e.hops)
  nearer e at is =
      let over = and_parts (ltb 0 e.hops) (eqb e.next j) is in
      let route = inv.routes i e (are.ends i j linked) at in
      let named : HasNearer (v e.next) e.destination e.hops = route.onward (ltb-true 0 e.hops over.0) in
      let near = subst (λ k. HasNearer (v k) e.destination e.hops) (eqb-true e.next j over.1) named in
      let to : IsNode g j = are.ends j i (are.symmetric j i ∙ linked) in
      let there = found (v j) (inv.ascending j to) near.entry near.listed in
      (near.entry, subst (λ d. route_of (v j) d ≡ Some near.entry) near.same there, near.nearer)

  never_nowhere : (e : Entry) → Contains (v i) e → leads_nowhere j (v j) e ≡ true → ⊥
  never_nowhere e at is =
      let parts = and_parts (leads_over j e) _ is in
      let near = nearer e at parts.0 in
      true≢false (sym parts.1 ∙ ap is_none near.1)

  never_no_nearer : (e : Entry) → Contains (v i) e → leads_no_nearer j (v j) e ≡ true → ⊥
  never_no_nearer e at is =
      let parts = and_parts (leads_over j e) _ is in
      let near = nearer e at parts.0 in
      let far = rw near.1 at parts.1 in
      omega (arith, ltb-true _ _ far, near.2)

-- where no row's guard holds, none is told
none_told : (j : ℕ) (own theirs : List Entry) →
    list_any (leads_nowhere j theirs) own ≡ false → list_any (leads_no_nearer j theirs) own ≡ false →
    routes_link_fault j own theirs ≡ None
unfolding enabled_of
none_told j own theirs one two = rw (one, two) refl

-- no row fails at either end of a link
pub routes_quiet : (g : Graph) (bound : ℕ) → IsGraph g → length g.ids ≤ bound → IsQuiet routes g bound (HasRoutes g)
routes_quiet g bound are few = record {
  at = λ v inv i j linked. none_told j (v i) (v j)
      (none_passes (leads_nowhere j (v j)) (v i) (never_nowhere g are v inv i j linked))
      (none_passes (leads_no_nearer j (v j)) (v i) (never_no_nearer g are v inv i j linked));
}
