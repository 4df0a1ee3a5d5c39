-- No entry is wrong exactly where each is a route.
use Rattle.std.proofs.Common.{◌≡◌, ◌↔◌, ℕ, zero, suc, ◌<◌, Bool, true, false, true≢false, not, ◌&&◌, ◌||◌, ◌==◌, ltb}
use Rattle.std.proofs.Common.{List, [], ◌∷◌, length, map, Contains, refl, sym, ap, ◌∙◌, subst, arith, eqb-true, eq-eqb, ⊎_elim}
use Rattle.std.specs.List.{list_any}
use Rattle.std.proofs.lemmas.Bool.{and_from, and_parts, cases_eq, ltb-true, lt-ltb}
use Rattle.std.proofs.lemmas.List.Folds.{list_any_at}
use Rattle.topology.specs.Graph.{Graph, IsGraph, IsWalk, AreLinked, are_linked}
use Rattle.app_interface.proofs.FromTextLaws.{ascends_tells}
use Rattle.app_routes.specs.Entries.{IsAscending}
use Rattle.app_routes.specs.Ways.{HasNearer, HasRoutes, IsRoute}
use Rattle.app_routes.specs.declared.entry.Entry.{Entry}
use Rattle.app_invariants.specs.LawsOfCounts.{none_counted, zero_sum, zero_term}
use Rattle.app_invariants.specs.WrongEntries.{has_nearer, is_ascending, is_route, is_walked, leads_nearer}
use Rattle.app_invariants.specs.WrongEntries.{wrong_at, wrong_entries}

-- ---- some item passes

-- one of the items
pub any_item : {X : Type 0} (p : X → Bool) (xs : List X) → list_any p xs ≡ true
    → (x : X) × Contains xs x × (p x ≡ true)
any_item p [] e = absurd (true≢false (sym e))
any_item {X = X} p (x ∷ xs) e = at (p x) refl e (any_item p xs)
  where
    at : (b : Bool) → p x ≡ b → (b || list_any p xs) ≡ true
        → (list_any p xs ≡ true → (y : X) × Contains xs y × (p y ≡ true))
        → (y : X) × Contains (x ∷ xs) y × (p y ≡ true)
    at true is e more = (x, (0, omega arith, refl), is)
    at false is e more =
        let found = more e in (found.0, (suc found.1.0, omega (arith, found.1.1), found.1.2), found.2)

pub item_any : {X : Type 0} (p : X → Bool) (xs : List X) (x : X) → Contains xs x → p x ≡ true → list_any p xs ≡ true
item_any p xs x at is = list_any_at p xs at.0 x at.1 (ap p at.2 ∙ is)

-- ---- walks of so many links

module _ (g : Graph) where
  -- a walk that the test finds
  pub walk_of_test : (a b links : ℕ) → is_walked g a b links ≡ true → (cs : List ℕ) × IsWalk g a cs b × (length cs ≡ links)
  walk_of_test a b zero e = ([], eqb-true a b e, refl)
  walk_of_test a b (suc links) e =
      let first = any_item (λ c. are_linked g a c && is_walked g c b links) g.nodes e in
      let both = and_parts (are_linked g a first.0) (is_walked g first.0 b links) first.2 in
      let rest = walk_of_test first.0 b links both.1 in
      (first.0 ∷ rest.0, (both.0, rest.1), ap suc rest.2)

  -- the test finds each walk
  pub test_of_walk : IsGraph g → (a b : ℕ) (cs : List ℕ) → IsWalk g a cs b → is_walked g a b (length cs) ≡ true
  test_of_walk are a b [] w = eq-eqb a b w
  test_of_walk are a b (c ∷ cs) w =
      item_any (λ x. are_linked g a x && is_walked g x b (length cs)) g.nodes c
      (are.ends c a (are.symmetric c a ∙ w.0))
      (and_from (are_linked g a c) (is_walked g c b (length cs)) w.0 (test_of_walk are c b cs w.1))

-- ---- entries that are nearer

pub nearer_tells : (es : List Entry) (d h : ℕ) → ((has_nearer es d h ≡ true) ↔ HasNearer es d h)
nearer_tells es d h = (
  λ e. let found = any_item (λ f. f.destination == d && ltb f.hops h) es e in
      let both = and_parts (found.0.destination == d) (ltb found.0.hops h) found.2 in
      record {
        entry = found.0;
        listed = found.1;
        same = eqb-true _ _ both.0;
        nearer = ltb-true _ _ both.1;
      },
  λ near. item_any (λ f. f.destination == d && ltb f.hops h) es near.entry near.listed
      (and_from _ _ (eq-eqb _ _ near.same) (lt-ltb _ _ near.nearer)),
)

-- ---- routes

module _ (g : Graph) (v : ℕ → List Entry) (are : IsGraph g) where
  onward_tells : (i : ℕ) (e : Entry) →
      ((e.hops == 0 || leads_nearer g v i e) ≡ true
      ↔ (0 < e.hops → AreLinked g i e.next × HasNearer (v e.next) e.destination e.hops))
  onward_tells i e = (
    λ t some. at (e.hops == 0) refl t some,
    λ onward. ⊎_elim
        (λ none. ap (λ b. b || leads_nearer g v i e) (eq-eqb e.hops 0 none))
        (λ some. let near = onward (omega (arith, some)) in
        or_second (e.hops == 0) (leads_nearer g v i e)
        (and_from _ _ near.0 ((nearer_tells (v e.next) e.destination e.hops).1 near.1)))
        (cases_eq e.hops 0),
  )
    where
      at : (b : Bool) → (e.hops == 0) ≡ b → (b || leads_nearer g v i e) ≡ true → 0 < e.hops
          → AreLinked g i e.next × HasNearer (v e.next) e.destination e.hops
      at true none t some = absurd (omega (arith, some, eqb-true e.hops 0 none))
      at false none t some =
          let both = and_parts (are_linked g i e.next) (has_nearer (v e.next) e.destination e.hops) t in
          (both.0, (nearer_tells (v e.next) e.destination e.hops).0 both.1)

      or_second : (b c : Bool) → c ≡ true → (b || c) ≡ true
      or_second true c t = refl
      or_second false c t = t

  pub route_tells : (i : ℕ) (e : Entry) → ((is_route g v i e ≡ true) ↔ IsRoute g v i e)
  route_tells i e = (
    λ t. let both = and_parts (is_walked g i e.destination e.hops) (e.hops == 0 || leads_nearer g v i e) t in
        record {
          walk = walk_of_test g i e.destination e.hops both.0;
          linked = λ some. ((onward_tells i e).0 both.1 some).0;
          onward = λ some. ((onward_tells i e).0 both.1 some).1;
        },
    λ route. and_from _ _
        (subst (λ n. is_walked g i e.destination n ≡ true) route.walk.2
        (test_of_walk g are i e.destination route.walk.0 route.walk.1))
        ((onward_tells i e).1 (λ some. (route.linked some, route.onward some))),
  )

  -- where no entry of a node is wrong its destinations ascend
  none_wrong : (b : Bool) → not b ≡ false → b ≡ true
  none_wrong true e = refl
  none_wrong false e = absurd (true≢false e)

  ascending_of : (i : ℕ) (es : List Entry) → v i ≡ es → wrong_at g v i ≡ 0 → IsAscending (v i)
  ascending_of i [] is none = subst IsAscending (sym is) ((ascends_tells []).0 refl)
  ascending_of i (e ∷ es) is none =
      let at : Contains (v i) e = subst (λ l. Contains l e) (sym is) (0, omega arith, refl) in
      let right =
      none_wrong _ ((none_counted (λ f. not (is_ascending (v i) && is_route g v i f)) (v i)).0 none e at) in
      (ascends_tells (map (λ f. f.destination) (v i))).0
      (and_parts (is_ascending (v i)) (is_route g v i e) right).0

  -- all entries of all nodes are routes exactly where none is counted
  pub routes_right : (wrong_entries g v ≡ 0) ↔ HasRoutes g v
  routes_right = (
    λ nothing. record {
      ascending = λ i node. ascending_of i (v i) refl (zero_term (wrong_at g v) g.nodes i nothing node);
      routes = λ i e node at.
          let right =
          none_wrong _ ((none_counted (λ f. not (is_ascending (v i) && is_route g v i f)) (v i)).0
          (zero_term (wrong_at g v) g.nodes i nothing node) e at) in
          (route_tells i e).0 (and_parts (is_ascending (v i)) (is_route g v i e) right).1;
    },
    λ inv. zero_sum (wrong_at g v) g.nodes (λ i node.
        (none_counted (λ f. not (is_ascending (v i) && is_route g v i f)) (v i)).1
        (λ e at. ap not (and_from _ _
        ((ascends_tells (map (λ f. f.destination) (v i))).1 (inv.ascending i node))
        ((route_tells i e).1 (inv.routes i e node at))))),
  )
