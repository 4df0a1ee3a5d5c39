-- Each entry of each node is a route, at the start and after each pull.
use Rattle.std.proofs.Common.{◌≡◌, ℕ, ◌≤◌, Bool, true, false, ◌==◌, cond, List, [], ◌∷◌, Option, Some, None, Ok, Err}
use Rattle.std.proofs.Common.{length, unwrap_or, Contains, refl, sym, ◌∙◌, subst, arith, eqb-true, ⊎_elim}
use Rattle.std.specs.Prelude.{option_and_then}
use Rattle.std.specs.Result.{result_ok}
use Rattle.std.proofs.lemmas.Bool.{cases_eq}
use Rattle.topology.specs.Graph.{Graph, IsGraph, IsNode, AreLinked, Changes}
use Rattle.app_interface.specs.Application.{Action, Fits, is_read, seen}
use Rattle.app_interface.specs.Ids.{is_id}
use Rattle.app_interface.specs.Invariant.{Keeps, SameAtNodes}
use Rattle.app_interface.specs.LawsOfViews.{seen_is}
use Rattle.app_interface.specs.Views.{seen_at}
use Rattle.app_interface.specs.declared.refusal.ClockRefusal.TheVariants.{NotEnabled}
use Rattle.app_routes.specs.Entries.{IsAscending, over, pulled, some_better}
use Rattle.app_routes.specs.LawsOfEntries.{HasWithin, none_in, only_one, taken_ascends, taken_from, taken_keeps}
use Rattle.app_routes.specs.Routes.{entries_of, routes, routes_next, routes_reads, routes_start}
use Rattle.app_routes.specs.Ways.{HasRoutes, IsRoute}
use Rattle.app_routes.specs.declared.entry.Entry.{Entry}

-- ---- the same states, and the start

module _ (g : Graph) (are : IsGraph g) (v v' : ℕ → List Entry) where
  -- a route stays one where no node loses a destination or gets further from it
  stays : ((k : ℕ) (f : Entry) → IsNode g k → Contains (v k) f → HasWithin (v' k) f.destination f.hops)
      → (i : ℕ) (e : Entry) → IsRoute g v i e → IsRoute g v' i e
  stays keeps i e route = record {
    walk = route.walk;
    linked = route.linked;
    onward = λ some.
        let near = route.onward some in
        let linked : AreLinked g i e.next = route.linked some in
        let node : IsNode g e.next = are.ends e.next i (are.symmetric e.next i ∙ linked) in
        let has = keeps e.next near.entry node near.listed in
        record {
          entry = has.entry;
          listed = has.listed;
          same = has.same ∙ near.same;
          nearer = omega (arith, has.within, near.nearer);
        };
  }

  same_routes : SameAtNodes g v v' → HasRoutes g v → HasRoutes g v'
  same_routes same inv = record {
    ascending = λ i node. subst IsAscending (sym (same i node)) (inv.ascending i node);
    routes = λ i e node at. stays kept i e (inv.routes i e node (subst (λ es. Contains es e) (same i node) at));
  }
    where
      kept : (k : ℕ) (f : Entry) → IsNode g k → Contains (v k) f → HasWithin (v' k) f.destination f.hops
      kept k f node at =
          record {
            entry = f;
            listed = subst (λ es. Contains es f) (sym (same k node)) at;
            same = refl;
            within = omega arith;
          }

start_routes : (g : Graph) → HasRoutes g (routes_start g)
start_routes g = record {
  ascending = λ i node k lt. absurd (omega (arith, lt));
  routes = λ i e node at. subst (IsRoute g (routes_start g) i) (only_one (itself i) e at) (home i);
}
  where
    itself : ℕ → Entry
    itself i = record { destination = i; hops = 0; next = i }

    home : (i : ℕ) → IsRoute g (routes_start g) i (itself i)
    home i = record {
      walk = ([], refl, refl);
      linked = λ some. absurd (omega (arith, some));
      onward = λ some. absurd (omega (arith, some));
    }

-- ---- a pull

-- what is seen of j are entries of j
seen_from : (j : ℕ) (v : ℕ → List Entry) (ids : List ℕ) (e : Entry)
    → Contains (entries_of j (seen (λ k. k == j) v ids)) e → Contains (v j) e
seen_from j v ids e = by (seen_at j (seen (λ k. k == j) v ids)) refl
  where
    by : (o : Option (List Entry)) → seen_at j (seen (λ k. k == j) v ids) ≡ o → Contains (unwrap_or o []) e
        → Contains (v j) e
    by None is at = absurd (none_in e at)
    by (Some w) is at = subst (λ es. Contains es e) (seen_is j v ids w is) at

-- an enabled case is a pull
pub record Pulls (K case j : ℕ) (own : List Entry) (near : List (ℕ × List Entry)) (new : List Entry) : Type 0 where
  pub one : 1 ≡ case
  pub is : new ≡ pulled K j own (entries_of j near)

pulls_from : (K case j : ℕ) (own new : List Entry) (near : List (ℕ × List Entry))
    → routes_next K case (Some j) own near ≡ Some new → Pulls K case j own near new
pulls_from K case j own new near = at (is_id j)
  where
    fired : (b c : Bool) → (1 == case) ≡ b
        → result_ok (cond b (cond c (Ok (pulled K j own (entries_of j near))) (Err NotEnabled)) (Err NotEnabled))
        ≡ Some new → Pulls K case j own near new
    fired true true is e = record { one = eqb-true 1 case is; is = cc }
    fired true false is e = absurd (cc)
    fired false c is e = absurd (cc)

    at : (a : Bool)
        → option_and_then
        (λ k. result_ok
        (cond (1 == case)
        (cond (some_better K own (entries_of k near)) (Ok (pulled K k own (entries_of k near))) (Err NotEnabled))
        (Err NotEnabled))) (cond a (Some j) None) ≡ Some new
        → Pulls K case j own near new
    at false e = absurd (cc)
    at true e = fired (1 == case) (some_better K own (entries_of j near)) refl e

module _ (g : Graph) (are : IsGraph g) (K i j : ℕ) (v v' : ℕ → List Entry) (node : IsNode g i)
    (linked : AreLinked g i j) (theirs : List Entry) (changes : Changes g v i (pulled K j (v i) theirs) v') where
  to : IsNode g j
  to = are.ends j i (are.symmetric j i ∙ linked)

  module _ (from : (e : Entry) → Contains theirs e → Contains (v j) e) (inv : HasRoutes g v) where
    -- no destination is lost anywhere, nor gets further
    kept : (k : ℕ) (f : Entry) → IsNode g k → Contains (v k) f → HasWithin (v' k) f.destination f.hops
    kept k f at there =
        ⊎_elim
        (λ same.
        let own : Contains (v i) f = subst (λ n. Contains (v n) f) same there in
        let before : HasWithin (v i) f.destination f.hops =
        record { entry = f; listed = own; same = refl; within = omega arith } in
        let after : HasWithin (v' i) f.destination f.hops =
        subst (λ es. HasWithin es f.destination f.hops) (sym changes.here)
        (taken_keeps K j (v i) (inv.ascending i node) f own theirs (v i) before) in
        subst (λ n. HasWithin (v' n) f.destination f.hops) (sym same) after)
        (λ other. record {
          entry = f;
          listed = subst (λ es. Contains es f) (sym (changes.others k at other)) there;
          same = refl;
          within = omega arith;
        })
        (cases_eq k i)

    -- the way over j is a route of i
    new_route : (e : Entry) → Contains (v j) e → IsRoute g v' i (over j e)
    new_route e there =
        let route = inv.routes j e to there in
        let has = kept j e to there in
        record {
          walk = (j ∷ route.walk.0, (linked, route.walk.1), omega (arith, route.walk.2));
          linked = λ some. linked;
          onward =
              λ some. record {
                entry = has.entry;
                listed = has.listed;
                same = has.same;
                nearer = omega (arith, has.within);
              };
        }

    here : (e : Entry) → Contains (v' i) e → IsRoute g v' i e
    here e at =
        ⊎_elim
        (λ old. stays g are v v' kept i e (inv.routes i e node old))
        (λ new. subst (IsRoute g v' i) new.2 (new_route new.0 (from new.0 new.1)))
        (taken_from K j (v i) theirs (v i) e (subst (λ es. Contains es e) changes.here at))

    pull_keeps : HasRoutes g v'
    pull_keeps = record {
      ascending = λ k at. ⊎_elim
          (λ same. subst (λ n. IsAscending (v' n)) (sym same)
          (subst IsAscending (sym changes.here) (taken_ascends K j (v i) theirs (v i) (inv.ascending i node))))
          (λ other. subst IsAscending (sym (changes.others k at other)) (inv.ascending k at))
          (cases_eq k i);
      routes = λ k e at there. ⊎_elim
          (λ same. subst (λ n. IsRoute g v' n e) (sym same) (here e (subst (λ n. Contains (v' n) e) same there)))
          (λ other. stays g are v v' kept k e
          (inv.routes k e at (subst (λ es. Contains es e) (changes.others k at other) there)))
          (cases_eq k i);
    }

acts : (g : Graph) → IsGraph g → (K i case : ℕ) (with : Option ℕ) (v v' : ℕ → List Entry)
    → Action routes g K i case with v v' → HasRoutes g v → HasRoutes g v'
acts g are K i case None v v' h inv = let e : None ≡ Some h.new = h.next in absurd (cc)
acts g are K i case (Some j) v v' h inv =
    let p = pulls_from K case j (v i) h.new (seen (is_read g i (routes_reads case) (Some j)) v g.ids) h.next in
    let fits : AreLinked g i j = subst (λ c. Fits g i (routes_reads c) (Some j)) (sym p.one) h.fits in
    let near : List (ℕ × List Entry) = seen (λ k. k == j) v g.ids in
    let is : h.new ≡ pulled K j (v i) (entries_of j near) =
    subst (λ c. h.new ≡ pulled K j (v i) (entries_of j (seen (is_read g i (routes_reads c) (Some j)) v g.ids)))
    (sym p.one) p.is in
    pull_keeps g are K i j v v' h.node fits (entries_of j near) (subst (λ x. Changes g v i x v') is h.changes)
    (λ e at. seen_from j v g.ids e at) inv

-- at the start and after each pull
pub routes_keep : (g : Graph) (bound : ℕ) → IsGraph g → length g.ids ≤ bound → Keeps routes g bound (HasRoutes g)
routes_keep g bound are few = record {
  same = same_routes g are;
  starts = start_routes g;
  acts = acts g are bound;
}
