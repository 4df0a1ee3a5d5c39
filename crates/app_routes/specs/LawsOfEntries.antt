-- Entries after one is set, and after better ones are taken, whatever the entries.
use Rattle.std.proofs.Common.{◌≡◌, ◌≢◌, ◌⊎◌, ℕ, zero, suc, ◌+◌, ◌<◌, ◌≤◌, Bool, true, false, true≢false, cond, eqb, ltb}
use Rattle.std.proofs.Common.{List, [], ◌∷◌, ◌++◌, Some, None, map, length, get_or, Contains, All, inl, inr, refl, sym}
use Rattle.std.proofs.Common.{ap, ap₂, ◌∙◌, subst, arith, eq-eqb, ⊎_elim}
use Rattle.std.specs.List.{filter, find, fold}
use Rattle.std.specs.List.Sorted.{IsStrictlyIncreasing}
use Rattle.std.specs.Option.{option_map_or}
use Rattle.std.proofs.lemmas.Bool.{and_parts, cases_eq, cases_order, ltb-true, lt-ltb}
use Rattle.std.proofs.lemmas.Bool.Decides.{eqb_tells}
use Rattle.std.proofs.lemmas.List.{map-append, get_or-map, length-map}
use Rattle.std.proofs.lemmas.List.Elements.{Contains-append_left, Contains-append_right, Contains-append_cases}
use Rattle.std.proofs.lemmas.List.Elements.{filter_passes}
use Rattle.std.proofs.lemmas.List.Kept.{IsStrictlyIncreasing-filter}
use Rattle.topology.proofs.Ascending.{index_once}
use Rattle.app_routes.specs.Entries.{IsAscending, route_of, set_route, over, is_better, take_better}
use Rattle.app_routes.specs.declared.entry.Entry.{Entry}

-- ---- which entries a list has

cons_cases : {X : Type 0} (x : X) (xs : List X) (y : X) → Contains (x ∷ xs) y → (x ≡ y) ⊎ Contains xs y
cons_cases x xs y h = at h.0 h.1 h.2
  where
    at : (k : ℕ) → k < length (x ∷ xs) → get_or (x ∷ xs) k y ≡ y → (x ≡ y) ⊎ Contains xs y
    at zero lt e = inl e
    at (suc k) lt e = inr (k, omega arith, e)

pub first : {X : Type 0} (x : X) (xs : List X) → Contains (x ∷ xs) x
first x xs = (0, omega arith, refl)

pub later : {X : Type 0} (x : X) (xs : List X) (y : X) → Contains xs y → Contains (x ∷ xs) y
later x xs y h = (suc h.0, omega (arith, h.1), h.2)

pub none_in : {X : Type 0} (y : X) → Contains [] y → ⊥
none_in y h = omega (arith, h.1)

pub only_one : {X : Type 0} (x y : X) → Contains (x ∷ []) y → x ≡ y
only_one x y h = ⊎_elim (λ e. e) (λ none. absurd (none_in y none)) (cons_cases x [] y h)

kept_from : {X : Type 0} (p : X → Bool) (xs : List X) (y : X) → Contains (filter p xs) y → Contains xs y
kept_from p [] y h = absurd (none_in y h)
kept_from {X = X} p (x ∷ xs) y h = at (p x) h (kept_from p xs y)
  where
    at : (b : Bool) → Contains (cond b (x ∷ filter p xs) (filter p xs)) y → (Contains (filter p xs) y → Contains xs y)
        → Contains (x ∷ xs) y
    at true h more =
        ⊎_elim (λ e. subst (Contains (x ∷ xs)) e (first x xs)) (λ rest. later x xs y (more rest))
        (cons_cases x (filter p xs) y h)
    at false h more = later x xs y (more h)

kept_in : {X : Type 0} (p : X → Bool) (xs : List X) (y : X) → p y ≡ true → Contains xs y → Contains (filter p xs) y
kept_in p [] y is h = absurd (none_in y h)
kept_in {X = X} p (x ∷ xs) y is h = at (p x) refl (cons_cases x xs y h) (kept_in p xs y is)
  where
    at : (b : Bool) → p x ≡ b → (x ≡ y) ⊎ Contains xs y → (Contains xs y → Contains (filter p xs) y)
        → Contains (cond b (x ∷ filter p xs) (filter p xs)) y
    at true passes (inl e) more = subst (Contains (x ∷ filter p xs)) e (first x (filter p xs))
    at true passes (inr rest) more = later x (filter p xs) y (more rest)
    at false fails (inl e) more = absurd (true≢false (sym is ∙ ap p (sym e) ∙ fails))
    at false fails (inr rest) more = more rest

module _ (es : List Entry) (e : Entry) where
  abbrev lesser : List Entry
  lesser = filter (λ f. ltb f.destination e.destination) es

  abbrev greater : List Entry
  greater = filter (λ f. ltb e.destination f.destination) es

  pub set_new : Contains (set_route es e) e
  set_new = Contains-append_right lesser (e ∷ greater) e (first e greater)

  pub set_cases : (y : Entry) → Contains (set_route es e) y → (e ≡ y) ⊎ Contains es y
  set_cases y h =
      ⊎_elim
      (λ low. inr (kept_from _ es y low))
      (λ rest. ⊎_elim (λ same. inl same) (λ high. inr (kept_from _ es y high)) (cons_cases e greater y rest))
      (Contains-append_cases lesser (e ∷ greater) y h)

  pub set_keeps : (y : Entry) → y.destination ≢ e.destination → Contains es y → Contains (set_route es e) y
  set_keeps y other h =
      ⊎_elim
      (λ same. absurd (other same))
      (λ ne. ⊎_elim
      (λ low. Contains-append_left lesser (e ∷ greater) y (kept_in _ es y (lt-ltb _ _ low) h))
      (λ high. Contains-append_right lesser (e ∷ greater) y (later e greater y (kept_in _ es y (lt-ltb _ _ high) h)))
      ne)
      (cases_order y.destination e.destination)

-- ---- ascending entries

filter-map : (p : ℕ → Bool) (es : List Entry)
    → map (λ e. e.destination) (filter (λ e. p e.destination) es) ≡ filter p (map (λ e. e.destination) es)
filter-map p [] = refl
filter-map p (e ∷ es) = at (p e.destination) (filter-map p es)
  where
    kept : List Entry
    kept = filter (λ e. p e.destination) es

    ds : List ℕ
    ds = filter p (map (λ e. e.destination) es)

    at : (b : Bool) → map (λ e. e.destination) kept ≡ ds
        → map (λ e. e.destination) (cond b (e ∷ kept) kept) ≡ cond b (e.destination ∷ ds) ds
    at true more = ap (λ l. e.destination ∷ l) more
    at false more = more

rises_into : (x : ℕ) (zs : List ℕ) → (0 < length zs → x < get_or zs 0 0) → IsStrictlyIncreasing zs
    → IsStrictlyIncreasing (x ∷ zs)
rises_into x zs above up zero lt = above (omega arith)
rises_into x zs above up (suc k) lt =
    let e : suc k + 1 ≡ suc (k + 1) = omega arith in
    subst (λ n. get_or zs k 0 < get_or (x ∷ zs) n 0) (sym e) (up k (omega arith))

pub rises_on : (x : ℕ) (xs : List ℕ) → IsStrictlyIncreasing (x ∷ xs) → IsStrictlyIncreasing xs
rises_on x xs up k lt =
    let e : suc k + 1 ≡ suc (k + 1) = omega arith in
    subst (λ n. get_or xs k 0 < get_or (x ∷ xs) n 0) e (up (suc k) (omega arith))

pub rises_around : (xs : List ℕ) (d : ℕ) (ys : List ℕ) → IsStrictlyIncreasing xs → IsStrictlyIncreasing ys
    → All (λ x. x < d) xs → All (λ y. d < y) ys → IsStrictlyIncreasing (xs ++ d ∷ ys)
rises_around [] d ys ux uy low high = rises_into d ys (λ some. high 0 0 some) uy
rises_around (x ∷ []) d ys ux uy low high =
    rises_into x (d ∷ ys) (λ some. low 0 0 (omega arith)) (rises_into d ys (λ some. high 0 0 some) uy)
rises_around (x ∷ y ∷ xs) d ys ux uy low high =
    rises_into x ((y ∷ xs) ++ d ∷ ys) (λ some. ux 0 (omega arith))
    (rises_around (y ∷ xs) d ys (rises_on x (y ∷ xs) ux) uy (λ k z lt. low (suc k) z (omega arith)) high)

below_all : (d : ℕ) (xs : List ℕ) → All (λ x. x < d) (filter (λ x. ltb x d) xs)
below_all d xs k z lt = ltb-true _ _ (filter_passes (λ x. ltb x d) xs k z lt)

above_all : (d : ℕ) (xs : List ℕ) → All (λ x. d < x) (filter (λ x. ltb d x) xs)
above_all d xs k z lt = ltb-true _ _ (filter_passes (λ x. ltb d x) xs k z lt)

pub set_ascends : (es : List Entry) (e : Entry) → IsAscending es → IsAscending (set_route es e)
set_ascends es e up =
    let d : ℕ = e.destination in
    let ds : List ℕ = map (λ f. f.destination) es in
    let low : List ℕ = filter (λ x. ltb x d) ds in
    let high : List ℕ = filter (λ x. ltb d x) ds in
    let all : IsStrictlyIncreasing (low ++ d ∷ high) =
    rises_around low d high (IsStrictlyIncreasing-filter _ ds up) (IsStrictlyIncreasing-filter _ ds up) (below_all d ds)
    (above_all d ds) in
    let is : map (λ f. f.destination) (set_route es e) ≡ low ++ d ∷ high =
    map-append (λ f. f.destination) (filter (λ f. ltb f.destination d) es) (e ∷ filter (λ f. ltb d f.destination) es)
    ∙ ap₂ (λ a b. a ++ d ∷ b) (filter-map (λ x. ltb x d) es) (filter-map (λ x. ltb d x) es) in
    subst IsStrictlyIncreasing (sym is) all

-- ---- the entry for a destination

-- the first that passes
pub find_first : {X : Type 0} (p : X → Bool) (xs : List X) (i : ℕ) (x : X) → i < length xs
    → ((k : ℕ) → k < i → p (get_or xs k x) ≡ false) → p (get_or xs i x) ≡ true →
    find p xs ≡ Some (get_or xs i x)
find_first p [] i x lt before is = absurd (omega arith)
find_first p (y ∷ xs) zero x lt before is = rw is refl
find_first p (y ∷ xs) (suc i) x lt before is =
    rw (before 0 (omega arith)) (find_first p xs i x (omega arith) (λ k less. before (suc k) (omega arith)) is)

pub find_none : {X : Type 0} (p : X → Bool) (xs : List X) (x : X)
    → ((k : ℕ) → k < length xs → p (get_or xs k x) ≡ false) → find p xs ≡ None
find_none p [] x fails = refl
find_none p (y ∷ xs) x fails = rw (fails 0 (omega arith)) (find_none p xs x (λ k lt. fails (suc k) (omega arith)))

module _ (es : List Entry) (up : IsAscending es) where
  long : length (map (λ e. e.destination) es) ≡ length es
  long = length-map es (λ e. e.destination)

  destination_at : (i : ℕ) (x : Entry) → i < length es
      → get_or (map (λ e. e.destination) es) i 0 ≡ (get_or es i x).destination
  destination_at i x lt = get_or-map (λ e. e.destination) es i x 0 lt

  -- one place a destination
  pub one_place : (i j : ℕ) (x : Entry) → i < length es → j < length es
      → (get_or es i x).destination ≡ (get_or es j x).destination → i ≡ j
  one_place i j x i_in j_in e =
      index_once (map (λ e. e.destination) es) up i j (omega (arith, long)) (omega (arith, long))
      (destination_at i x i_in ∙ e ∙ sym (destination_at j x j_in))

  -- an entry is the one for its destination
  pub found : (e : Entry) → Contains es e → route_of es e.destination ≡ Some e
  found e at =
      find_first (λ f. eqb f.destination e.destination) es at.0 e at.1 (λ k less. other k less)
      (eq-eqb _ _ (ap (λ f. f.destination) at.2))
      ∙ ap (λ f. Some f) at.2
    where
      other : (k : ℕ) → k < at.0 → eqb (get_or es k e).destination e.destination ≡ false
      other k less =
          let k_in : k < length es = omega (arith, at.1) in
          ⊎_elim
          (λ same. absurd
          (omega (arith, less, one_place k at.0 e k_in at.1 (same.1 ∙ sym (ap (λ f. f.destination) at.2)))))
          (λ ne. ne.0)
          (eqb_tells (get_or es k e).destination e.destination)

-- ---- better entries

-- a better entry has fewer hops than the own entry for its destination
pub better_than : (K : ℕ) (own : List Entry) (e f : Entry) → IsAscending own → Contains own f
    → f.destination ≡ e.destination → is_better K own e ≡ true → e.hops + 1 < f.hops
better_than K own e f up at same is =
    let shorter : option_map_or (λ o. ltb (e.hops + 1) o.hops) (route_of own e.destination) true ≡ true =
    (and_parts (ltb (e.hops + 1) K) _ is).1 in
    let there : route_of own e.destination ≡ Some f = subst (λ d. route_of own d ≡ Some f) same (found own up f at) in
    ltb-true _ _ (rw there at shorter)

-- one of the entries leads to d in at most h links
pub record HasWithin (es : List Entry) (d h : ℕ) : Type 0 where
  pub entry : Entry
  pub listed : Contains es entry
  pub same : entry.destination ≡ d
  pub within : entry.hops ≤ h

module _ (K j : ℕ) (own : List Entry) where
  -- ascending entries stay so
  pub taken_ascends : (theirs es : List Entry) → IsAscending es → IsAscending (fold (take_better K j own) es theirs)
  taken_ascends [] es up = up
  taken_ascends (e ∷ theirs) es up = taken_ascends theirs (take_better K j own es e) (at (is_better K own e))
    where
      at : (b : Bool) → IsAscending (cond b (set_route es (over j e)) es)
      at true = set_ascends es (over j e) up
      at false = up

  -- an entry was there before, or leads over j and an entry of j
  pub taken_from : (theirs es : List Entry) (y : Entry) → Contains (fold (take_better K j own) es theirs) y
      → Contains es y ⊎ ((e : Entry) × Contains theirs e × (over j e ≡ y))
  taken_from [] es y h = inl h
  taken_from (e ∷ theirs) es y h =
      ⊎_elim
      (λ before. at (is_better K own e) before)
      (λ more. inr (more.0, later e theirs more.0 more.1, more.2))
      (taken_from theirs (take_better K j own es e) y h)
    where
      at : (b : Bool) → Contains (cond b (set_route es (over j e)) es) y
          → Contains es y ⊎ ((f : Entry) × Contains (e ∷ theirs) f × (over j f ≡ y))
      at true before = ⊎_elim (λ new. inr (e, first e theirs, new)) (λ old. inl old) (set_cases es (over j e) y before)
      at false before = inl before

  -- no destination is lost, nor gets further
  pub taken_keeps : IsAscending own → (f : Entry) → Contains own f → (theirs es : List Entry)
      → HasWithin es f.destination f.hops → HasWithin (fold (take_better K j own) es theirs) f.destination f.hops
  taken_keeps up f at [] es has = has
  taken_keeps up f at (e ∷ theirs) es has =
      taken_keeps up f at theirs (take_better K j own es e)
      (step (is_better K own e) refl (cases_eq f.destination e.destination))
    where
      step : (b : Bool) → is_better K own e ≡ b → (f.destination ≡ e.destination) ⊎ (f.destination ≢ e.destination)
          → HasWithin (cond b (set_route es (over j e)) es) f.destination f.hops
      step false is which = has
      step true is (inl same) =
          record {
            entry = over j e;
            listed = set_new es (over j e);
            same = sym same;
            within = omega (arith, better_than K own e f up at same is);
          }
      step true is (inr other) =
          record {
            entry = has.entry;
            listed = set_keeps es (over j e) has.entry (λ same. other (sym has.same ∙ same)) has.listed;
            same = has.same;
            within = has.within;
          }
