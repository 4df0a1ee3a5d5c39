-- The entry for a destination after a pull.
use Rattle.std.proofs.Common.{◌≡◌, ◌≢◌, ◌⊎◌, ℕ, suc, ◌<◌, Bool, true, false, cond, eqb, ltb, List, [], ◌∷◌, Option}
use Rattle.std.proofs.Common.{Some, None, map, inl, inr, refl, sym, ap, ◌∙◌, arith, eq-eqb, ne_eqb, lt-ltb, le-ltb}
use Rattle.std.specs.List.{filter, fold}
use Rattle.std.specs.Option.{option_or}
use Rattle.std.proofs.lemmas.Bool.{cases_order}
use Rattle.std.proofs.lemmas.Bool.Decides.{eqb_tells}
use Rattle.std.proofs.lemmas.List.Folds.{find-append}
use Rattle.app_routes.specs.Entries.{IsAscending, is_better, over, pulled, route_of, set_route, take_better}
use Rattle.app_routes.specs.LawsOfEntries.{find_none, one_place, rises_on}
use Rattle.app_routes.specs.Pulled.{route_after}
use Rattle.app_routes.specs.declared.entry.Entry.{Entry}

-- of the entries whose destinations pass, the one for d
route_of-filter : (t : ℕ → Bool) (es : List Entry) (d : ℕ)
    → route_of (filter (λ f. t f.destination) es) d ≡ cond (t d) (route_of es d) None
route_of-filter t [] d = at (t d)
  where
    at : (b : Bool) → ◌≡◌ {A = Option Entry} None (cond b None None)
    at true = refl
    at false = refl
route_of-filter t (e ∷ es) d = at (t e.destination) refl (eqb_tells e.destination d) (route_of-filter t es d)
  where
    kept : List Entry
    kept = filter (λ f. t f.destination) es

    at : (b : Bool) → t e.destination ≡ b
        → ((eqb e.destination d ≡ true) × (e.destination ≡ d)) ⊎ ((eqb e.destination d ≡ false) × (e.destination ≢ d)) →
        route_of kept d ≡ cond (t d) (route_of es d) None
        → route_of (cond b (e ∷ kept) kept) d
        ≡ cond (t d) (cond (eqb e.destination d) (Some e) (route_of es d)) None
    at true is (inl here) more = rw (sym (ap t here.1) ∙ is, here.0) refl
    at false is (inl here) more = let fails : t d ≡ false = sym (ap t here.1) ∙ is in more ∙ rw fails refl
    at true is (inr other) more = rw (other.0) more
    at false is (inr other) more = rw (other.0) more

or_none : (o : Option Entry) → option_or o None ≡ o
or_none None = refl
or_none (Some e) = refl

-- the entry for d after one is set
route_of-set : (es : List Entry) (e : Entry) (d : ℕ)
    → route_of (set_route es e) d ≡ cond (eqb e.destination d) (Some e) (route_of es d)
route_of-set es e d =
    find-append (λ f. eqb f.destination d) (filter (λ f. ltb f.destination e.destination) es)
    (e ∷ filter (λ f. ltb e.destination f.destination) es)
    ∙ rw (route_of-filter (λ x. ltb x e.destination) es d, route_of-filter (λ x. ltb e.destination x) es d)
    (by (cases_order e.destination d))
  where
    whole : Bool → Bool → Bool → Option Entry
    whole low same high =
        option_or (cond low (route_of es d) None) (cond same (Some e) (cond high (route_of es d) None))

    by : (e.destination ≡ d) ⊎ ((e.destination < d) ⊎ (d < e.destination))
        → whole (ltb d e.destination) (eqb e.destination d) (ltb e.destination d)
        ≡ cond (eqb e.destination d) (Some e) (route_of es d)
    by (inl same) = let low : ltb d e.destination ≡ false =
        le-ltb _ _ (omega (arith, same)) in rw (low, eq-eqb _ _ same) refl
    by (inr (inl less)) =
        let low : ltb d e.destination ≡ false = le-ltb _ _ (omega (arith, less)) in
        let other : eqb e.destination d ≡ false = ne_eqb _ _ (λ same. absurd (omega (arith, less, same))) in
        rw (low, other, lt-ltb _ _ less) refl
    by (inr (inr more)) =
        let high : ltb e.destination d ≡ false = le-ltb _ _ (omega (arith, more)) in
        let other : eqb e.destination d ≡ false = ne_eqb _ _ (λ same. absurd (omega (arith, more, same))) in
        rw (lt-ltb _ _ more, other, high) (or_none (route_of es d))

module _ (K j : ℕ) (own : List Entry) (d : ℕ) where
  -- an entry for d, or for another destination, is taken where it is better
  route_of-take : (es : List Entry) (e : Entry)
      → route_of (take_better K j own es e) d
      ≡ cond (eqb e.destination d) (cond (is_better K own e) (Some (over j e)) (route_of es d)) (route_of es d)
  route_of-take es e = at (is_better K own e)
    where
      same : (b : Bool) (o : Option Entry) → o ≡ cond b o o
      same true o = refl
      same false o = refl

      at : (b : Bool)
          → route_of (cond b (set_route es (over j e)) es) d
          ≡ cond (eqb e.destination d) (cond b (Some (over j e)) (route_of es d)) (route_of es d)
      at true = route_of-set es (over j e) d
      at false = same (eqb e.destination d) (route_of es d)

  none_of_rest : (e : Entry) (theirs : List Entry) → IsAscending (e ∷ theirs) → e.destination ≡ d
      → route_of theirs d ≡ None
  none_of_rest e theirs up here = find_none (λ f. eqb f.destination d) theirs e (λ k lt. ne_eqb _ _ (λ same.
      let at : 0 ≡ suc k =
      one_place (e ∷ theirs) up 0 (suc k) e (omega arith) (omega (arith, lt)) (here ∙ sym same) in absurd
      (omega (arith, at))))

  -- entries for other destinations leave the one for d
  route_of-others : (theirs es : List Entry) → route_of theirs d ≡ None
      → route_of (fold (take_better K j own) es theirs) d ≡ route_of es d
  route_of-others [] es none = refl
  route_of-others (e ∷ theirs) es none =
      at (eqb_tells e.destination d) (route_of-others theirs (take_better K j own es e))
    where
      at : ((eqb e.destination d ≡ true) × (e.destination ≡ d)) ⊎ ((eqb e.destination d ≡ false) × (e.destination ≢ d))
          →
          (route_of theirs d ≡ None
          → route_of (fold (take_better K j own) (take_better K j own es e) theirs) d
          ≡ route_of (take_better K j own es e) d) →
          route_of (fold (take_better K j own) (take_better K j own es e) theirs) d ≡ route_of es d
      at (inl here) more = let found : Some e ≡ None = rw here.0 at none in absurd (cc)
      at (inr other) more =
          more (rw other.0 at none) ∙ route_of-take es e
          ∙ ap (λ b. cond b (cond (is_better K own e) (Some (over j e)) (route_of es d)) (route_of es d)) other.0

  -- the entry for d after the better ones of theirs are taken, from entries on
  abbrev after : List Entry → Option Entry → Option Entry
  after es None = route_of es d
  after es (Some e) = cond (is_better K own e) (Some (over j e)) (route_of es d)

  route_of-taken : (theirs es : List Entry) → IsAscending theirs
      → route_of (fold (take_better K j own) es theirs) d ≡ after es (route_of theirs d)
  route_of-taken [] es up = refl
  route_of-taken (e ∷ theirs) es up =
      at (eqb_tells e.destination d)
      (route_of-taken theirs (take_better K j own es e) (rises_on e.destination (map (λ f. f.destination) theirs) up))
    where
      same_after : (o : Option Entry) (es' : List Entry) → route_of es' d ≡ route_of es d → after es' o ≡ after es o
      same_after None es' is = is
      same_after (Some f) es' is = ap (λ r. cond (is_better K own f) (Some (over j f)) r) is

      at : ((eqb e.destination d ≡ true) × (e.destination ≡ d)) ⊎ ((eqb e.destination d ≡ false) × (e.destination ≢ d))
          →
          route_of (fold (take_better K j own) (take_better K j own es e) theirs) d
          ≡ after (take_better K j own es e) (route_of theirs d) →
          route_of (fold (take_better K j own) (take_better K j own es e) theirs) d
          ≡ after es (cond (eqb e.destination d) (Some e) (route_of theirs d))
      at (inl here) more =
          route_of-others theirs (take_better K j own es e) (none_of_rest e theirs up here.1)
          ∙ route_of-take es e ∙ rw here.0 refl
      at (inr other) more =
          more ∙ same_after (route_of theirs d) (take_better K j own es e) (route_of-take es e ∙ rw other.0 refl)
          ∙ rw other.0 refl

pub route_of-pulled : (K j d : ℕ) (own theirs : List Entry) → IsAscending theirs
    → route_of (pulled K j own theirs) d ≡ route_after K j own d (route_of theirs d)
route_of-pulled K j d own theirs up = route_of-taken K j own d theirs own up ∙ is (route_of theirs d)
  where
    is : (o : Option Entry) → after K j own d own o ≡ route_after K j own d o
    is None = refl
    is (Some e) = refl
