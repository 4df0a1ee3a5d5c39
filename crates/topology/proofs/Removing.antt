-- A link taken out of rows.
use Rattle.std.proofs.Common.{◌≡◌, ℕ, ◌<◌, Bool, true, false, not, ◌&&◌, ◌||◌, eqb, List, [], length, get_or, set}
use Rattle.std.proofs.Common.{filter, Vec, Global, sym, refl, ap, ap₂, subst, ◌∙◌, arith, eq-eqb, ne_eqb, ⊎_elim}
use Rattle.std.specs.List.Sorted.{IsStrictlyIncreasing}
use Rattle.std.proofs.lemmas.Bool.{cases_eq, and_parts}
use Rattle.std.proofs.lemmas.List.{length-set, get_or-set_same, get_or-set_other, get_or-map, map-set}
use Rattle.std.proofs.lemmas.List.Kept.{IsStrictlyIncreasing-filter}
use Rattle.topology.specs.Graph.{has}
use Rattle.topology.specs.Building.{Unlinks, joins}
use Rattle.topology.specs.Rows.{row_at, near_has, AreRows}
use Rattle.topology.proofs.Inserting.{rows_of, row_items, joins_back}
use Rattle.topology.proofs.Membership.{has-filter}

-- a row without an index
abbrev pub without : ℕ → List ℕ → List ℕ
without j row = filter (λ i. not (eqb i j)) row

eqb_back : (x y : ℕ) → eqb x y ≡ eqb y x
eqb_back x y =
    ⊎_elim (λ e. eq-eqb x y e ∙ sym (eq-eqb y x (sym e))) (λ ne. ne_eqb x y ne ∙ sym (ne_eqb y x (λ e. ne (sym e))))
    (cases_eq x y)

only_other : (p q : Bool) → (not q && p) ≡ (p && not (true && q))
only_other true true = refl
only_other true false = refl
only_other false true = refl
only_other false false = refl

untouched : (p q : Bool) → p ≡ (p && not (false && q))
untouched true q = refl
untouched false q = refl

not_last : (p x y x' y' : Bool) → ((p && not (x && y)) && not (y' && x')) ≡ (p && not ((x && y) || (x' && y')))
not_last false x y x' y' = refl
not_last true true true x' y' = refl
not_last true true false true true = refl
not_last true true false true false = refl
not_last true true false false true = refl
not_last true true false false false = refl
not_last true false y true true = refl
not_last true false y true false = refl
not_last true false y false true = refl
not_last true false y false false = refl

module _ (rows : List (List ℕ)) (i j : ℕ) (within : i < length rows) where
  abbrev now : List (List ℕ)
  now = set rows i (without j (row_at rows i))

  row_taken : row_at now i ≡ without j (row_at rows i)
  row_taken = get_or-set_same rows i (without j (row_at rows i)) [] within

  near_taken : (a b : ℕ) → near_has now a b ≡ (near_has rows a b && not (eqb i a && eqb j b))
  near_taken a b =
      ⊎_elim
      (λ same.
      let here : near_has now i b ≡ (near_has rows i b && not (eqb i i && eqb j b)) =
      ap (λ r. has r b) row_taken ∙ has-filter (λ k. not (eqb k j)) (row_at rows i) b
      ∙ only_other (near_has rows i b) (eqb b j)
      ∙ ap₂ (λ s t. near_has rows i b && not (s && t)) (sym (eq-eqb i i refl)) (eqb_back b j) in
      subst (λ k. near_has now k b ≡ (near_has rows k b && not (eqb i k && eqb j b))) (sym same) here)
      (λ other.
      ap (λ r. has r b) (get_or-set_other rows i a (without j (row_at rows i)) [] other)
      ∙ untouched (near_has rows a b) (eqb j b)
      ∙ ap (λ t. near_has rows a b && not (t && eqb j b)) (sym (ne_eqb i a (λ e. other (sym e)))))
      (cases_eq a i)

  taken_ascends : ((a : ℕ) → IsStrictlyIncreasing (row_at rows a)) → (a : ℕ) → IsStrictlyIncreasing (row_at now a)
  taken_ascends up a =
      ⊎_elim
      (λ same. subst IsStrictlyIncreasing (sym (ap (row_at now) same ∙ row_taken))
      (IsStrictlyIncreasing-filter (λ k. not (eqb k j)) (row_at rows i) (up i)))
      (λ other. subst IsStrictlyIncreasing (sym (get_or-set_other rows i a (without j (row_at rows i)) [] other))
      (up a))
      (cases_eq a i)

module _ (n : ℕ) (rows : List (List ℕ)) (are : AreRows n rows) (i j : ℕ) (i_in : i < n) (j_in : j < n) where
  abbrev first : List (List ℕ)
  first = set rows i (without j (row_at rows i))

  abbrev both : List (List ℕ)
  both = set first j (without i (row_at first j))

  i_low : i < length rows
  i_low = omega (arith, are.count)

  j_low : j < length first
  j_low = omega (arith, are.count, length-set rows i (without j (row_at rows i)))

  near_unlinked : (a b : ℕ) → near_has both a b ≡ (near_has rows a b && not (joins a b (i, j)))
  near_unlinked a b =
      near_taken first j i j_low a b
      ∙ ap (λ t. t && not (eqb j a && eqb i b)) (near_taken rows i j i_low a b)
      ∙ not_last (near_has rows a b) (eqb i a) (eqb j b) (eqb i b) (eqb j a)

  pub unlinked : Unlinks n rows i j both
  unlinked = record {
    members = near_unlinked;
    as_rows = record {
      count = length-set first j (without i (row_at first j)) ∙ length-set rows i (without j (row_at rows i))
          ∙ are.count;
      ascending = taken_ascends first j i j_low (taken_ascends rows i j i_low are.ascending);
      within =
          λ a b e. are.within a b
          (and_parts (near_has rows a b) (not (joins a b (i, j))) (sym (near_unlinked a b) ∙ e)).0;
      symmetric = λ a b.
          near_unlinked a b ∙ ap₂ (λ x y. x && not y) (are.symmetric a b) (joins_back a b (i, j))
          ∙ sym (near_unlinked b a);
      irreflexive = λ a. near_unlinked a a ∙ ap (λ x. x && not (joins a a (i, j))) (are.irreflexive a);
    };
  }

-- the same, of rows that are vectors
pub unlinked_rows : (near : List (Vec ℕ Global)) → AreRows (length near) (rows_of near) → (i j : ℕ) → i < length near
    → j < length near → (d v e w : Vec ℕ Global) →
    v.items ≡ without j (get_or near i d).items → w.items ≡ without i (get_or (set near i v) j e).items
    → Unlinks (length near) (rows_of near) i j (rows_of (set (set near i v) j w))
unlinked_rows near are i j i_in j_in d v e w v_is w_is =
    let v_row : v.items ≡ without j (row_at (rows_of near) i) =
    v_is ∙ ap (without j) (sym (row_items near i j d i_in)) in
    let first_is : rows_of (set near i v) ≡ set (rows_of near) i (without j (row_at (rows_of near) i)) =
    map-set (λ row. row.items) near i v ∙ ap (set (rows_of near) i) v_row in
    let j_low : j < length (set near i v) = subst (λ n. j < n) (sym (length-set near i v)) j_in in
    let w_row : w.items ≡ without i (row_at (rows_of (set near i v)) j) =
    w_is ∙ ap (without i) (sym (get_or-map (λ row. row.items) (set near i v) j e [] j_low)) in
    subst (Unlinks (length near) (rows_of near) i j)
    (sym (map-set (λ row. row.items) (set near i v) j w
    ∙ ap₂ (λ r x. set r j x) first_is (w_row ∙ ap (λ r. without i (row_at r j)) first_is)))
    (unlinked (length near) (rows_of near) are i j i_in j_in)
