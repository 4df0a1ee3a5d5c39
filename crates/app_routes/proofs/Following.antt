-- Going from node to node, each time to the one that the entry names.
use Rattle.std.proofs.Common.{◌≡◌, ◌≢◌, ℕ, zero, suc, ◌<◌, ◌≤◌, List, [], ◌∷◌, Some, length, Contains, All, sym, ap}
use Rattle.std.proofs.Common.{◌∙◌, subst, arith, refl, ⊎_elim}
use Rattle.std.specs.List.{AllPairs}
use Rattle.std.proofs.lemmas.Bool.{cases_eq}
use Rattle.std.proofs.lemmas.List.Kept.{AllPairs-cons}
use Rattle.topology.specs.Graph.{Graph, IsGraph, IsNode, AreLinked, IsWalk}
use Rattle.app_routes.specs.Entries.{route_of}
use Rattle.app_routes.specs.LawsOfEntries.{found}
use Rattle.app_routes.specs.Ways.{ArrivesWithin, HasRoutes, LeadsTo}
use Rattle.app_routes.specs.declared.entry.Entry.{Entry}

walk_of : (g : Graph) (v : ℕ → List Entry) (d i : ℕ) (cs : List ℕ) → LeadsTo g v d i cs → IsWalk g i cs d
walk_of g v d i [] leads = leads
walk_of g v d i (c ∷ cs) leads = (leads.0.linked, walk_of g v d c cs leads.1)

-- a walk of no links
no_links : (g : Graph) (i d : ℕ) (cs : List ℕ) → IsWalk g i cs d → length cs ≡ 0 → i ≡ d
no_links g i d [] w e = w
no_links g i d (c ∷ cs) w e = absurd (omega (arith, e))

-- a node whose entry for d has fewer than h hops
record IsNearer (v : ℕ → List Entry) (d h c : ℕ) : Type 0 where
  pub entry : Entry
  pub is_own : route_of (v c) d ≡ Some entry
  pub fewer : entry.hops < h

-- the nodes that are named from i on, each with fewer than h hops
record Way (g : Graph) (v : ℕ → List Entry) (d i h : ℕ) : Type 0 where
  pub nodes : List ℕ
  pub leads : LeadsTo g v d i nodes
  pub short : length nodes ≤ h
  pub apart : AllPairs (λ a b. a ≢ b) (i ∷ nodes)
  pub nearer : All (IsNearer v d h) nodes

module _ (g : Graph) (v : ℕ → List Entry) (d : ℕ) where
  -- at the destination
  here : (i h : ℕ) → i ≡ d → Way g v d i h
  here i h e = record {
    nodes = [];
    leads = e;
    short = omega arith;
    apart = λ a b x less lt. absurd (omega (arith, less, lt));
    nearer = λ k x lt. absurd (omega (arith, lt));
  }

  -- a node with h hops isn't one with fewer
  apart_from : (i : ℕ) (e : Entry) → route_of (v i) d ≡ Some e → (nodes : List ℕ) → All (IsNearer v d e.hops) nodes
      → All (λ c. i ≢ c) nodes
  apart_from i e is nodes nearer k x lt = λ same.
      let near = nearer k x lt in
      let also : Some e ≡ Some near.entry =
      sym is ∙ subst (λ c. route_of (v c) d ≡ Some near.entry) (sym same) near.is_own in
      let one : e ≡ near.entry = cc in
      absurd (omega (arith, near.fewer, ap (λ f. f.hops) one))

  -- one node further
  further : (i c : ℕ) (e f : Entry) → route_of (v i) d ≡ Some e → e.next ≡ c → AreLinked g i c
      → route_of (v c) d ≡ Some f → f.hops < e.hops → Way g v d c f.hops → Way g v d i e.hops
  further i c e f is_own named linked is_theirs fewer rest = record {
    nodes = c ∷ rest.nodes;
    leads = (
      record {
        own = e;
        is_own = is_own;
        named = named;
        linked = linked;
        theirs = f;
        is_theirs = is_theirs;
        fewer = fewer;
      },
      rest.leads,
    );
    short = omega (arith, rest.short, fewer);
    apart = AllPairs-cons (λ a b. a ≢ b) i (c ∷ rest.nodes) (apart_from i e is_own (c ∷ rest.nodes) all) rest.apart;
    nearer = all;
  }
    where
      all : All (IsNearer v d e.hops) (c ∷ rest.nodes)
      all zero x lt = record { entry = f; is_own = is_theirs; fewer = fewer }
      all (suc k) x lt =
          let near = rest.nearer k x (omega (arith, lt)) in
          record { entry = near.entry; is_own = near.is_own; fewer = omega (arith, near.fewer, fewer) }

  module _ (are : IsGraph g) (inv : HasRoutes g v) where
    home : (i : ℕ) (e : Entry) → IsNode g i → Contains (v i) e → e.destination ≡ d → e.hops ≡ 0 → Way g v d i e.hops
    home i e node at same none =
        let route = inv.routes i e node at in
        here i e.hops (no_links g i e.destination route.walk.0 route.walk.1 (route.walk.2 ∙ none) ∙ same)

    on : (m i : ℕ) (e : Entry) → IsNode g i → Contains (v i) e → e.destination ≡ d → 0 < e.hops → e.hops ≤ suc m
        → ((c : ℕ) (f : Entry) → IsNode g c → Contains (v c) f → f.destination ≡ d → f.hops ≤ m → Way g v d c f.hops)
        → Way g v d i e.hops
    on m i e node at same some low rest =
        let route = inv.routes i e node at in
        let linked : AreLinked g i e.next = route.linked some in
        let to : IsNode g e.next = are.ends e.next i (are.symmetric e.next i ∙ linked) in
        let near = route.onward some in
        let ends : near.entry.destination ≡ d = near.same ∙ same in
        let own : route_of (v i) d ≡ Some e =
        subst (λ x. route_of (v i) x ≡ Some e) same (found (v i) (inv.ascending i node) e at) in
        let theirs : route_of (v e.next) d ≡ Some near.entry =
        subst (λ x. route_of (v e.next) x ≡ Some near.entry) ends
        (found (v e.next) (inv.ascending e.next to) near.entry near.listed) in
        further i e.next e near.entry own refl linked theirs near.nearer
        (rest e.next near.entry to near.listed ends (omega (arith, near.nearer, low)))

    way : (n i : ℕ) (e : Entry) → IsNode g i → Contains (v i) e → e.destination ≡ d → e.hops ≤ n → Way g v d i e.hops
    way zero i e node at same low = home i e node at same (omega (arith, low))
    way (suc n) i e node at same low =
        ⊎_elim
        (λ none. home i e node at same none)
        (λ some. on n i e node at same (omega (arith, some)) low (λ c f. way n c f))
        (cases_eq e.hops 0)

pub arrives : (g : Graph) (v : ℕ → List Entry) (i : ℕ) (e : Entry) → IsGraph g → HasRoutes g v → IsNode g i
    → Contains (v i) e → ArrivesWithin g v i e.destination e.hops
arrives g v i e are inv node at =
    let w = way g v e.destination are inv e.hops i e node at refl (omega arith) in
    record {
      nodes = w.nodes;
      leads = w.leads;
      walk = walk_of g v e.destination i w.nodes w.leads;
      short = w.short;
      no_loop = w.apart;
    }
