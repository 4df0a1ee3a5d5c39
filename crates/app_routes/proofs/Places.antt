-- The place of a destination among ascending entries, and what stands there.
use Rattle.std.proofs.Common.{◌≡◌, ℕ, ◌+◌, ◌<◌, ◌≤◌, eqb, ltb, List, [], ◌∷◌, ◌++◌, Some, None, Ok, Err, Result, map}
use Rattle.std.proofs.Common.{length, get_or, set, take, drop, insert, refl, sym, ap, ap₂, ◌∙◌, subst, arith, nat_cmp}
use Rattle.std.proofs.Common.{eq-eqb, ne_eqb, le-ltb, lt-ltb, ⊎_elim, take-append-drop, option_map}
use Rattle.std.specs.Cmp.{ranks}
use Rattle.std.specs.List.{filter, refill}
use Rattle.std.specs.List.Sorted.{IsBinarySearchResult, IsSearchInRange}
use Rattle.std.specs.Ordering.{MatchOrdering, ordering_index}
use Rattle.std.specs.declared.cmp.Ordering.{Ordering}
use Rattle.std.specs.declared.cmp.Ordering.TheVariants.{Less, Equal, Greater}
use Rattle.std.proofs.lemmas.Bool.{cases_eq, cases_lt}
use Rattle.std.proofs.lemmas.List.{get_or-map, length-map, take-set, drop-set, drop_all, take_all, append-nil}
use Rattle.std.proofs.lemmas.List.Elements.{All-append, All-filter}
use Rattle.topology.proofs.Ascending.{rises}
use Rattle.app_interface.proofs.KeptByIndex.{keeps_back, keeps_prefix}
use Rattle.app_interface.proofs.ListEnds.{all_one}
use Rattle.app_routes.specs.Entries.{AreRoutes, IsAscending, IsEntry, IsPlaceOf, route_of, set_route}
use Rattle.app_routes.specs.LawsOfEntries.{find_first, find_none, set_ascends}
use Rattle.app_routes.specs.declared.entry.Entry.{Entry}

-- ---- what a search answers

is_less : (a b : ℕ) → nat_cmp a b ≡ Less → a < b
is_less a b e = subst (λ o. MatchOrdering o (a < b) (a ≡ b) (b < a)) e (ranks a b)

is_equal : (a b : ℕ) → nat_cmp a b ≡ Equal → a ≡ b
is_equal a b e = subst (λ o. MatchOrdering o (a < b) (a ≡ b) (b < a)) e (ranks a b)

is_greater : (a b : ℕ) → nat_cmp a b ≡ Greater → b < a
is_greater a b e = subst (λ o. MatchOrdering o (a < b) (a ≡ b) (b < a)) e (ranks a b)

-- a greater number ranks no lower
ranks_up : (a b x : ℕ) → a ≤ b → ordering_index (nat_cmp a x) ≤ ordering_index (nat_cmp b x)
ranks_up a b x le = at (nat_cmp a x) (nat_cmp b x) (ranks a x) (ranks b x)
  where
    at : (o p : Ordering) → MatchOrdering o (a < x) (a ≡ x) (x < a) → MatchOrdering p (b < x) (b ≡ x) (x < b)
        → ordering_index o ≤ ordering_index p
    at Less Less h k = omega arith
    at Less Equal h k = omega arith
    at Less Greater h k = omega arith
    at Equal Less h k = absurd (omega (arith, h, k, le))
    at Equal Equal h k = omega arith
    at Equal Greater h k = omega arith
    at Greater Less h k = absurd (omega (arith, h, k, le))
    at Greater Equal h k = absurd (omega (arith, h, k, le))
    at Greater Greater h k = omega arith

-- ---- a list after a write

-- a list after a write is its prefix, what was written, and its back
set_split : {X : Type 0} (xs : List X) (i : ℕ) (y : X) → i < length xs → set xs i y ≡ take i xs ++ y ∷ drop (i + 1) xs
set_split xs i y lt = sym (take-append-drop i (set xs i y)) ∙ ap₂ (λ a b. a ++ b) (take-set xs i y) (drop-set xs i y lt)

-- a list of the same length is filled up from nothing
pub refill_same : {X : Type 0} (xs ws : List X) → length ws ≡ length xs → refill (length xs) xs ws ≡ ws
refill_same xs ws e =
    ap (λ l. take (length xs) (ws ++ l)) (drop_all (length ws) xs (omega (arith, e)))
    ∙ ap (take (length xs)) (append-nil ws) ∙ take_all (length xs) ws (omega (arith, e))

-- ---- the place

module _ (es : List Entry) (up : IsAscending es) where
  long : length (map (λ e. e.destination) es) ≡ length es
  long = length-map es (λ e. e.destination)

  pub destination_at : (i : ℕ) (x : Entry) → i < length es
      → get_or (map (λ e. e.destination) es) i 0 ≡ (get_or es i x).destination
  destination_at i x lt = get_or-map (λ e. e.destination) es i x 0 lt

  pub in_order : (i j : ℕ) (x : Entry) → i < j → j < length es
      → (get_or es i x).destination < (get_or es j x).destination
  in_order i j x less lt =
      omega (
        arith,
        rises (map (λ e. e.destination) es) up i j less (omega (arith, lt, long)),
        destination_at i x
            (omega arith),
        destination_at j x lt,
      )

  pub in_weak_order : (i j : ℕ) (x : Entry) → i ≤ j → j < length es
      → (get_or es i x).destination ≤ (get_or es j x).destination
  in_weak_order i j x le lt =
      ⊎_elim
      (λ same. subst (λ k. (get_or es i x).destination ≤ (get_or es k x).destination) same (omega arith))
      (λ other. omega (arith, in_order i j x (omega (arith, le, other)) lt))
      (cases_eq i j)

  pub placed : (d : ℕ) (r : Result ℕ ℕ) → IsSearchInRange r (length es)
      → IsBinarySearchResult (λ e. nat_cmp e.destination d) es r → IsPlaceOf es d r
  placed d (Ok i) within h = (within, λ x. is_equal (get_or es i x).destination d (h x))
  placed d (Err i) within h =
      let parted =
      h (λ a b x le lt. ranks_up (get_or es a x).destination (get_or es b x).destination d
      (in_weak_order a b x le lt)) in (
        within,
        λ k x low lt. is_less (get_or es k x).destination d (parted.0 k x low lt),
        λ k x low lt. is_greater (get_or es k x).destination d (parted.1 k x low lt),
      )

  -- the entry at the place is the one for the destination
  pub at_place : (d i : ℕ) (x : Entry) → IsPlaceOf es d (Ok i) → route_of es d ≡ Some (get_or es i x)
  at_place d i x place =
      find_first (λ e. eqb e.destination d) es i x place.0
      (λ k less. ne_eqb _ _ (λ e. absurd (omega (arith, e, in_order k i x less place.0, place.1 x))))
      (eq-eqb _ _ (place.1 x))

  pub no_place : (d i : ℕ) (x : Entry) → IsPlaceOf es d (Err i) → route_of es d ≡ None
  no_place d i x place =
      find_none (λ e. eqb e.destination d) es x
      (λ k lt. ne_eqb _ _ (λ e. ⊎_elim
      (λ low. absurd (omega (arith, e, place.1 k x (omega arith) low)))
      (λ high. absurd (omega (arith, e, place.2 k x high lt)))
      (cases_lt k i)))

  -- how many hops the entry has
  pub hops_at : (d i : ℕ) (x : Entry) → IsPlaceOf es d (Ok i)
      → Some (get_or es i x).hops ≡ option_map (λ e. e.hops) (route_of es d)
  hops_at d i x place = rw (at_place d i x place) refl

  pub no_hops : (d i : ℕ) (x : Entry) → IsPlaceOf es d (Err i) → None ≡ option_map (λ e. e.hops) (route_of es d)
  no_hops d i x place = rw (no_place d i x place) refl

  module _ (e : Entry) (i : ℕ) where
    -- an entry takes the place of the one for its destination
    pub put_at : IsPlaceOf es e.destination (Ok i) → set es i e ≡ set_route es e
    put_at place =
        let low : filter (λ f. ltb f.destination e.destination) es ≡ take i es =
        keeps_prefix (λ f. ltb f.destination e.destination) es i e (omega (arith, place.0))
        (λ k less. lt-ltb _ _ (omega (arith, in_order k i e less place.0, place.1 e)))
        (λ k ge lt. le-ltb _ _ (omega (arith, in_weak_order i k e ge lt, place.1 e))) in
        let high : filter (λ f. ltb e.destination f.destination) es ≡ drop (i + 1) es =
        keeps_back (λ f. ltb e.destination f.destination) es (i + 1) e (omega (arith, place.0))
        (λ k less. le-ltb _ _ (omega (arith, in_weak_order k i e (omega (arith, less)) place.0, place.1 e)))
        (λ k ge lt. lt-ltb _ _ (omega (arith, in_order i k e (omega (arith, ge)) lt, place.1 e))) in
        set_split es i e place.0 ∙ sym (ap₂ (λ a b. a ++ e ∷ b) low high)

    -- or its place between the others
    pub put_in : IsPlaceOf es e.destination (Err i) → insert es i e ≡ set_route es e
    put_in place =
        let low : filter (λ f. ltb f.destination e.destination) es ≡ take i es =
        keeps_prefix (λ f. ltb f.destination e.destination) es i e place.0
        (λ k less. lt-ltb _ _ (place.1 k e (omega arith) less))
        (λ k ge lt. le-ltb _ _ (omega (arith, place.2 k e ge lt))) in
        let high : filter (λ f. ltb e.destination f.destination) es ≡ drop i es =
        keeps_back (λ f. ltb e.destination f.destination) es i e place.0
        (λ k less. le-ltb _ _ (omega (arith, place.1 k e (omega arith) less)))
        (λ k ge lt. lt-ltb _ _ (place.2 k e ge lt)) in
        sym (ap₂ (λ a b. a ++ e ∷ b) low high)

-- entries with one more stay entries
pub routes_set : (es : List Entry) (e : Entry) → AreRoutes es → IsEntry e → AreRoutes (set_route es e)
routes_set es e are is = record {
  ascending = set_ascends es e are.ascending;
  are_entries =
      All-append IsEntry _ (e ∷ _) (All-filter _ IsEntry es are.are_entries)
      (All-append IsEntry (e ∷ []) _ (all_one IsEntry e is) (All-filter _ IsEntry es are.are_entries));
}
