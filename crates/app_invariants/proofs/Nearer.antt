-- A binary search among ascending entries, and how many entries there are.
use Rattle.std.proofs.Common.{◌≡◌, ℕ, zero, suc, ◌+◌, ◌<◌, ◌≤◌, false, ltb, ◌==◌, ◌&&◌, List, Ok, Err, Result, length, map, get_or}
use Rattle.std.proofs.Common.{All, nat_cmp, sym, ap, ◌∙◌, subst, arith, ⊎_elim, eqb-true, eq-eqb}
use Rattle.std.specs.Cmp.{both_ways as same_tests}
use Rattle.std.specs.List.Sorted.{IsBinarySearchResult, IsSearchInRange, IsStrictlyIncreasing}
use Rattle.std.specs.Ordering.{ordering_index}
use Rattle.std.proofs.lemmas.Bool.{and_from, and_parts, cases_Bool, cases_lt}
use Rattle.std.proofs.lemmas.List.{get_or-map, get_or_default, length-map}
use Rattle.topology.specs.Id.{IsId}
use Rattle.topology.proofs.Ascending.{finds, index_once}
use Rattle.app_routes.specs.Entries.{AreRoutes, IsAscending}
use Rattle.app_routes.specs.declared.entry.Entry.{Entry}
use Rattle.app_invariants.specs.LawsOfWrongEntries.{any_item, item_any}
use Rattle.app_invariants.specs.WrongEntries.{has_nearer}

-- an entry, for what lies past the end of a list
abbrev pub some_entry : Entry
some_entry = record { destination = 0; hops = 0; next = 0 }

module _ (es : List Entry) (d : ℕ) where
  abbrev ends : List ℕ
  ends = map (λ e. e.destination) es

  long : length ends ≡ length es
  long = length-map es (λ e. e.destination)

  end_at : (k x : ℕ) (e : Entry) → k < length es → get_or ends k x ≡ (get_or es k e).destination
  end_at k x e lt = get_or-map (λ f. f.destination) es k e x lt

  -- a search by the destinations is one among them
  pub by_ends : (e : Entry) (r : Result ℕ ℕ) → IsSearchInRange r (length es)
      → IsBinarySearchResult (λ f. nat_cmp f.destination d) es r → IsBinarySearchResult (λ y. nat_cmp y d) ends r
  by_ends e (Ok i) within h = λ x. ap (λ y. nat_cmp y d) (end_at i x e within) ∙ h e
  by_ends e (Err i) within h =
      λ rising.
      let parted =
      h (λ a b x le lt. subst (λ y. ordering_index (nat_cmp y d) ≤ ordering_index (nat_cmp (get_or es b x).destination d))
      (end_at a 0 x (omega (arith, le, lt)))
      (subst (λ y. ordering_index (nat_cmp (get_or ends a 0) d) ≤ ordering_index (nat_cmp y d)) (end_at b 0 x lt)
      (rising a b 0 le (omega (arith, lt, long))))) in (
        λ k x low lt. ap (λ y. nat_cmp y d) (end_at k x e (omega (arith, lt, within))) ∙ parted.0 k e low lt,
        λ k x low lt. ap (λ y. nat_cmp y d) (end_at k x e (omega (arith, lt, long))) ∙ parted.1 k e low (omega (arith, lt, long)),
      )

  module _ (up : IsAscending es) (h : ℕ) where
    -- one entry a destination
    other_place : (e : Entry) (i : ℕ) → i < length es → get_or ends i 0 ≡ d → (k : ℕ) → k < length es
        → (get_or es k e).destination ≡ d → k ≡ i
    other_place e i i_in here k k_in there =
        index_once ends up k i (omega (arith, k_in, long)) (omega (arith, i_in, long)) (end_at k 0 e k_in ∙ there ∙ sym here)

    nearer_at : (e : Entry) (i : ℕ) → i < length es → get_or ends i 0 ≡ d
        → ltb (get_or es i e).hops h ≡ has_nearer es d h
    nearer_at e i i_in here =
        same_tests _ _
        (λ less. item_any (λ f. f.destination == d && ltb f.hops h) es (get_or es i e)
        (i, i_in, get_or_default es i (get_or es i e) e i_in)
        (and_from _ _ (eq-eqb _ _ (sym (end_at i 0 e i_in) ∙ here)) less))
        (λ t.
        let found = any_item (λ f. f.destination == d && ltb f.hops h) es t in
        let both = and_parts (found.0.destination == d) (ltb found.0.hops h) found.2 in
        let k = found.1.0 in
        let k_in : k < length es = found.1.1 in
        let item : get_or es k e ≡ found.0 = get_or_default es k e found.0 k_in ∙ found.1.2 in
        let same : k ≡ i =
        other_place e i i_in here k k_in (ap (λ f. f.destination) item ∙ eqb-true _ _ both.0) in
        ap (λ f. ltb f.hops h) (ap (λ n. get_or es n e) (sym same) ∙ item) ∙ both.1)

    -- without the destination
    nearer_none : (e : Entry) (i : ℕ) → ((k : ℕ) → k < i → get_or ends k 0 < d)
        → ((k : ℕ) → i ≤ k → k < length ends → d < get_or ends k 0) → false ≡ has_nearer es d h
    nearer_none e i below above =
        ⊎_elim
        (λ t.
        let found = any_item (λ f. f.destination == d && ltb f.hops h) es t in
        let both = and_parts (found.0.destination == d) (ltb found.0.hops h) found.2 in
        let k = found.1.0 in
        let k_in : k < length es = found.1.1 in
        let item : get_or es k e ≡ found.0 = get_or_default es k e found.0 k_in ∙ found.1.2 in
        let there : get_or ends k 0 ≡ d =
        end_at k 0 e k_in ∙ ap (λ f. f.destination) item ∙ eqb-true _ _ both.0 in
        ⊎_elim
        (λ low. absurd (omega (arith, below k low, there)))
        (λ high. absurd (omega (arith, above k high (omega (arith, k_in, long)), there)))
        (cases_lt k i))
        (λ f. sym f)
        (cases_Bool (has_nearer es d h))

    -- what a search finds
    pub found_nearer : (e : Entry) (i : ℕ) → IsSearchInRange (Ok i) (length es)
        → IsBinarySearchResult (λ f. nat_cmp f.destination d) es (Ok i) → ltb (get_or es i e).hops h ≡ has_nearer es d h
    found_nearer e i within r =
        let at = finds ends d up (Ok i) (by_ends e (Ok i) within r) in
        nearer_at e i (omega (arith, at.0, long)) at.1

    pub none_nearer : (e : Entry) (i : ℕ) → IsSearchInRange (Err i) (length es)
        → IsBinarySearchResult (λ f. nat_cmp f.destination d) es (Err i) → false ≡ has_nearer es d h
    none_nearer e i within r =
        let at = finds ends d up (Err i) (by_ends e (Err i) within r) in
        nearer_none e i at.1 at.2

-- ---- how many entries there are

climbs : (xs : List ℕ) → IsStrictlyIncreasing xs → All IsId xs → (k : ℕ) → k < length xs → k < get_or xs k 0
climbs xs up ids zero lt = (ids 0 0 lt).positive
climbs xs up ids (suc k) lt =
    let next : k + 1 ≡ suc k = omega arith in
    let step : get_or xs k 0 < get_or xs (suc k) 0 = subst (λ n. get_or xs k 0 < get_or xs n 0) next (up k (omega (arith, lt))) in
    omega (arith, climbs xs up ids k (omega (arith, lt)), step)

few_ids : (xs : List ℕ) → IsStrictlyIncreasing xs → All IsId xs → (n : ℕ) → length xs ≡ n → n ≤ 65535
few_ids xs up ids zero long = omega arith
few_ids xs up ids (suc n) long =
    omega (arith, climbs xs up ids n (omega (arith, long)), (ids n 0 (omega (arith, long))).small)

-- a node has at most as many as there are identifiers
pub few_entries : (es : List Entry) → AreRoutes es → length es ≤ 65535
few_entries es are =
    few_ids (map (λ e. e.destination) es) are.ascending
    (λ k x lt.
    let k_in : k < length es = omega (arith, lt, length-map es (λ e. e.destination)) in
    let e : Entry = record { destination = 0; hops = 0; next = 0 } in
    subst IsId (sym (get_or-map (λ f. f.destination) es k e x k_in)) (are.are_entries k e k_in).destination)
    (length es) (length-map es (λ e. e.destination))
