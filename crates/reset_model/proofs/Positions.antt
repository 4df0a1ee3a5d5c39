-- The values of ids that stand in a list in the order of the ids.
use Rattle.std.proofs.Common.{◌≡◌, ◌≢◌, ℕ, zero, suc, ◌<◌, Bool, true, false, cond, nat_eq, List, [], ◌∷◌, length}
use Rattle.std.proofs.Common.{slice_index, slice_index_or, slice_set, Option, Some, None, IsSome, is_some, nat_lt}
use Rattle.std.proofs.Common.{position, Contains, ◌==◌, ◌⊎◌, inl, inr, refl, ap, sym, ◌∙◌, subst, arith}
use Rattle.std.specs.List.Sorted.{IsStrictlyIncreasing}
use Rattle.std.proofs.lemmas.Bool.Decides.{nat_tests, eqb_tells}
use Rattle.std.proofs.lemmas.Bool.{eqb-true, eq-eqb, ne_eqb, false≢true, lt-ltb}
use Rattle.std.specs.List.{list_any, position_or_len}
use Rattle.std.proofs.lemmas.List.{get_or_default}
use Rattle.std.proofs.lemmas.List.Quantifiers.{position-Some}
use Rattle.std.proofs.lemmas.List.Kept.{AllPairs-from_increasing}
use Rattle.reset_model.specs.Configuration.{value_at, put_at}

-- the first place of an id is the place of its value
pub value_at-first : {X : Type 0} (d : X) (ids : List ℕ) (xs : List X) (ix id : ℕ) → ix < length ids
    → length xs ≡ length ids → slice_index ids ix ≡ id → ((k : ℕ) → k < ix → slice_index ids k ≢ id)
    → value_at d ids xs id ≡ slice_index_or xs ix d
value_at-first d [] xs ix id short same here before = absurd (omega arith)
value_at-first d (k ∷ ks) [] ix id short same here before = absurd (omega arith)
value_at-first d (k ∷ ks) (x ∷ xs) zero id short same here before = grind (arith, nat_tests)
value_at-first d (k ∷ ks) (x ∷ xs) (suc ix) id short same here before =
    let other : k ≢ id = before 0 (omega arith) in
    let rest : value_at d ks xs id ≡ slice_index_or xs ix d =
    value_at-first d ks xs ix id (omega arith) (omega arith) here (λ m l. before (suc m) (omega arith)) in
    grind (arith, nat_tests)

-- and the place at which it is put
pub put_at-first : {X : Type 0} (ids : List ℕ) (xs : List X) (ix id : ℕ) (y : X) → ix < length ids
    → length xs ≡ length ids → slice_index ids ix ≡ id → ((k : ℕ) → k < ix → slice_index ids k ≢ id)
    → put_at ids xs id y ≡ slice_set xs ix y
put_at-first [] xs ix id y short same here before = absurd (omega arith)
put_at-first (k ∷ ks) [] ix id y short same here before = absurd (omega arith)
put_at-first (k ∷ ks) (x ∷ xs) zero id y short same here before = grind (arith, nat_tests)
put_at-first (k ∷ ks) (x ∷ xs) (suc ix) id y short same here before =
    let other : k ≢ id = before 0 (omega arith) in
    let rest : put_at ks xs id y ≡ slice_set xs ix y =
    put_at-first ks xs ix id y (omega arith) (omega arith) here (λ m l. before (suc m) (omega arith)) in
    grind (arith, nat_tests)

-- the same of the place that a search for the id gives
pub value_at-position : {X : Type 0} (d : X) (ids : List ℕ) (xs : List X) (ix id : ℕ) → length xs ≡ length ids
    → position (λ i. i == id) ids ≡ Some ix → value_at d ids xs id ≡ slice_index_or xs ix d
value_at-position d ids xs ix id same found =
    let place = position-Some (λ i. i == id) ids ix 0 found in
    value_at-first d ids xs ix id place.0 same (eqb-true _ _ place.1)
    (λ k l e. absurd (false≢true (sym (place.2 k l) ∙ eq-eqb _ _ e)))

pub put_at-position : {X : Type 0} (ids : List ℕ) (xs : List X) (ix id : ℕ) (y : X) → length xs ≡ length ids
    → position (λ i. i == id) ids ≡ Some ix → put_at ids xs id y ≡ slice_set xs ix y
put_at-position ids xs ix id y same found =
    let place = position-Some (λ i. i == id) ids ix 0 found in
    put_at-first ids xs ix id y place.0 same (eqb-true _ _ place.1)
    (λ k l e. absurd (false≢true (sym (place.2 k l) ∙ eq-eqb _ _ e)))

-- the same of any place, where the ids ascend
pub value_at-place : {X : Type 0} (d : X) (ids : List ℕ) (xs : List X) (ix : ℕ) → IsStrictlyIncreasing ids
    → length xs ≡ length ids → ix < length ids → value_at d ids xs (slice_index ids ix) ≡ slice_index_or xs ix d
value_at-place d ids xs ix up same short =
    value_at-first d ids xs ix _ short same refl
    (λ k l e. absurd (omega (arith, AllPairs-from_increasing ids up k ix 0 l short)))

-- some number of the list is the id, so a search for it comes to an end before the list does
position_or_len-lt : (ids : List ℕ) (id k : ℕ) → k < length ids → slice_index ids k ≡ id
    → position_or_len (λ i. i == id) ids < length ids
position_or_len-lt [] id k short here = absurd (omega arith)
position_or_len-lt (i ∷ ids) id zero short here = grind (arith, nat_tests)
position_or_len-lt (i ∷ ids) id (suc k) short here =
    let rest : position_or_len (λ i. i == id) ids < length ids = position_or_len-lt ids id k (omega arith) here in
    grind (arith, nat_tests)

-- a search finds what is there
pub position-Contains : (ids : List ℕ) (id : ℕ) → Contains ids id → position (λ i. i == id) ids ≡ None → ⊥
position-Contains ids id there none =
    let short = position_or_len-lt ids id there.0 there.1 (get_or_default ids there.0 0 id there.1 ∙ there.2) in
    grind (arith, nat_tests)

-- an id has a place exactly where it is among the ids
pub list_any-position : (ids : List ℕ) (id : ℕ) → list_any (λ i. i == id) ids ≡ is_some (position (λ i. i == id) ids)
list_any-position ids id = short ids ∙ sym (some_place _ _)
  where
    short : (ks : List ℕ) → list_any (λ i. i == id) ks ≡ nat_lt (position_or_len (λ i. i == id) ks) (length ks)
    short [] = refl
    short (k ∷ ks) = let rest = short ks in grind (arith, nat_tests)

    some_place : (b : Bool) (n : ℕ) → is_some (cond b (Some n) None) ≡ b
    some_place true n = refl
    some_place false n = refl

-- what a search for an id says of the id, under either of its names
pub found_is_node : (ids : List ℕ) (at id ix : ℕ) → at ≡ id → Some ix ≡ position (λ i. i == at) ids
    → list_any (λ i. i == id) ids ≡ true
found_is_node ids at id ix same found =
    let P : ℕ → Type 0 = λ k. list_any (λ i. i == k) ids ≡ true in
    subst P same (list_any-position ids at ∙ ap is_some (sym found))

pub unfound_is_no_node : (ids : List ℕ) (at id : ℕ) → at ≡ id → None ≡ position (λ i. i == at) ids
    → list_any (λ i. i == id) ids ≡ false
unfound_is_no_node ids at id same missing =
    let P : ℕ → Type 0 = λ k. list_any (λ i. i == k) ids ≡ false in
    subst P same (list_any-position ids at ∙ ap is_some (sym missing))

-- what is put at one place leaves the values of the other ids
pub value_at-set_other : {X : Type 0} (d : X) (ids : List ℕ) (xs : List X) (ix id : ℕ) (y : X) → slice_index ids ix ≢ id
    → value_at d ids (slice_set xs ix y) id ≡ value_at d ids xs id
value_at-set_other d [] xs ix id y other = refl
value_at-set_other d (k ∷ ks) [] ix id y other = refl
value_at-set_other d (k ∷ ks) (x ∷ xs) zero id y other = let apart : nat_eq k id ≡ false =
    ne_eqb k id other in rw apart refl
value_at-set_other d (k ∷ ks) (x ∷ xs) (suc ix) id y other =
    ap (λ r. cond (nat_eq k id) x r) (value_at-set_other d ks xs ix id y other)

-- what a search finds is there
pub Contains-position : (ids : List ℕ) (id ix : ℕ) → position (λ i. i == id) ids ≡ Some ix → Contains ids id
Contains-position ids id ix found =
    let place = position-Some (λ i. i == id) ids ix 0 found in
    (ix, place.0, get_or_default ids ix id 0 place.0 ∙ eqb-true _ _ place.1)

-- what is read at the place that a search gives is the value of the id
pub read_at-position : {X : Type 0} (d : X) (ids : List ℕ) (xs : List X) (ix id : ℕ) (x : X) → length xs ≡ length ids
    → position (λ i. i == id) ids ≡ Some ix → x ≡ slice_index_or xs ix x → x ≡ value_at d ids xs id
read_at-position d ids xs ix id x same found read =
    let place = position-Some (λ i. i == id) ids ix 0 found in
    read ∙ get_or_default xs ix x d (omega (arith, place.0)) ∙ sym (value_at-position d ids xs ix id same found)

-- what is put at an id is its value, where it has a place
pub value_at-put_at : {X : Type 0} (d : X) (ids : List ℕ) (xs : List X) (id : ℕ) (y : X) → length xs ≡ length ids
    → Contains ids id → value_at d ids (put_at ids xs id y) id ≡ y
value_at-put_at d [] xs id y same there = absurd (omega (arith, there.1))
value_at-put_at d (k ∷ ks) [] id y same there = absurd (omega arith)
value_at-put_at d (k ∷ ks) (x ∷ xs) id y same there =
    at (eqb_tells k id) (value_at-put_at d ks xs id y (omega arith)) there
  where
    at : ((nat_eq k id ≡ true) × (k ≡ id)) ⊎ ((nat_eq k id ≡ false) × (k ≢ id))
        → (Contains ks id → value_at d ks (put_at ks xs id y) id ≡ y) → Contains (k ∷ ks) id
        → value_at d (k ∷ ks) (put_at (k ∷ ks) (x ∷ xs) id y) id ≡ y
    at (inl e) rest there = rw (e.0, e.0) refl
    at (inr e) rest (zero, short, here) = absurd (e.1 here)
    at (inr e) rest (suc n, short, here) = rw (e.0, e.0) (rest (n, omega arith, here))

-- and the values of the other ids stay
pub value_at-put_at_other : {X : Type 0} (d : X) (ids : List ℕ) (xs : List X) (id other : ℕ) (y : X) → other ≢ id
    → value_at d ids (put_at ids xs id y) other ≡ value_at d ids xs other
value_at-put_at_other d [] xs id other y apart = refl
value_at-put_at_other d (k ∷ ks) [] id other y apart = refl
value_at-put_at_other d (k ∷ ks) (x ∷ xs) id other y apart =
    at (eqb_tells k id) (eqb_tells k other) (value_at-put_at_other d ks xs id other y apart)
  where
    at : ((nat_eq k id ≡ true) × (k ≡ id)) ⊎ ((nat_eq k id ≡ false) × (k ≢ id))
        → ((nat_eq k other ≡ true) × (k ≡ other)) ⊎ ((nat_eq k other ≡ false) × (k ≢ other))
        → value_at d ks (put_at ks xs id y) other ≡ value_at d ks xs other
        → value_at d (k ∷ ks) (put_at (k ∷ ks) (x ∷ xs) id y) other ≡ value_at d (k ∷ ks) (x ∷ xs) other
    at (inl e) (inl f) rest = absurd (apart (sym f.1 ∙ e.1))
    at (inl e) (inr f) rest = rw (e.0, f.0) refl
    at (inr e) (inl f) rest = rw (e.0, f.0) refl
    at (inr e) (inr f) rest = rw (e.0, f.0) rest

-- an answer is not both there and not
pub none_is_no_some : {X : Type 0} {o : Option X} → o ≡ None → IsSome o → ⊥
none_is_no_some {o = None} is some = absurd (false≢true some)
none_is_no_some {o = Some x} is some = cc

-- the id at the place that a search gives
pub id_at-position : (ids : List ℕ) (ix id : ℕ) → position (λ i. i == id) ids ≡ Some ix → slice_index ids ix ≡ id
id_at-position ids ix id found = eqb-true _ _ (position-Some (λ i. i == id) ids ix 0 found).1

-- a search for the id at a place ends at the place, where the id stands nowhere before
position_or_len-place : (ids : List ℕ) (ix id : ℕ) → ix < length ids → slice_index ids ix ≡ id
    → ((k : ℕ) → k < ix → slice_index ids k ≢ id) → position_or_len (λ i. i == id) ids ≡ ix
position_or_len-place [] ix id short here before = absurd (omega arith)
position_or_len-place (i ∷ ids) zero id short here before = grind (arith, nat_tests)
position_or_len-place (i ∷ ids) (suc ix) id short here before =
    let other : i ≢ id = before 0 (omega arith) in
    let rest : position_or_len (λ i. i == id) ids ≡ ix =
    position_or_len-place ids ix id (omega arith) here (λ k l. before (suc k) (omega arith)) in
    grind (arith, nat_tests)

pub position-place : (ids : List ℕ) (ix : ℕ) → IsStrictlyIncreasing ids → ix < length ids
    → position (λ i. i == slice_index ids ix) ids ≡ Some ix
position-place ids ix up short =
    let at =
    position_or_len-place ids ix (slice_index ids ix) short refl
    (λ k l e. absurd (omega (arith, AllPairs-from_increasing ids up k ix 0 l short))) in
    ap (λ n. cond (nat_lt n (length ids)) (Some n) None) at
    ∙ ap (λ b. cond b (Some ix) None) (lt-ltb ix (length ids) short)

-- the same under another name of the id
pub position-named : (ids : List ℕ) (ix id : ℕ) → IsStrictlyIncreasing ids → ix < length ids → slice_index ids ix ≡ id
    → position (λ i. i == id) ids ≡ Some ix
position-named ids ix id up short at =
    subst (λ k. position (λ i. i == k) ids ≡ Some ix) at (position-place ids ix up short)
