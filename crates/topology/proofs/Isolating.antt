-- All links of one index taken out of rows, one after another.
use Rattle.std.proofs.Common.{◌≡◌, ◌≢◌, ℕ, ◌+◌, ◌*◌, ◌<◌, ◌≤◌, Bool, true, false, not, ◌&&◌, ◌||◌, eqb, List, length}
use Rattle.std.proofs.Common.{get_or, take, refl, sym, ap, ap₂, subst, ◌∙◌, arith, eq-eqb, ne_eqb, ⊎_elim}
use Rattle.std.specs.List.{list_any}
use Rattle.std.specs.FinSet as set
use Rattle.std.proofs.lemmas.Bool.{both_ways, cases_Bool, cases_eq, false_from_ne_true}
use Rattle.std.proofs.lemmas.List.{get_or-take, get_or_default, length-take, take_all}
use Rattle.std.proofs.lemmas.List.Folds.{Any-from_list_any, list_any_at, list_any_more}
use Rattle.topology.specs.Building.{joins, Isolates, Unlinks}
use Rattle.topology.specs.Rows.{row_at, near_has, links_of, AreIds, AreRows}
use Rattle.topology.proofs.Ascending.{index_of_member, member_at, rises}
use Rattle.topology.proofs.Changed.{two_fewer}
use Rattle.topology.proofs.Inserting.{joins_back, joins_ends, joins_own}

-- the links to the first k indexes of the row of i are taken out
pub record Isolating (n : ℕ) (old : List (List ℕ)) (i k : ℕ) (new : List (List ℕ)) : Type 0 where
  pub members : (a b : ℕ) → near_has new a b
      ≡ (near_has old a b && not (list_any (λ j. joins a b (i, j)) (take k (row_at old i))))
  pub as_rows : AreRows n new
  pub fewer : (ids : List ℕ) → AreIds ids → length ids ≡ n
      → set.len (links_of ids old) ≡ set.len (links_of ids new) + 2 * k

with_true : (b : Bool) → b ≡ (b && true)
with_true true = refl
with_true false = refl

and_once_more : (p s t : Bool) → ((p && not s) && not t) ≡ (p && not (s || t))
and_once_more true true t = refl
and_once_more true false t = refl
and_once_more false s t = refl

pub isolating_none : (n : ℕ) (rows : List (List ℕ)) (i : ℕ) → AreRows n rows → Isolating n rows i 0 rows
isolating_none n rows i are = record {
  members = λ a b. with_true (near_has rows a b);
  as_rows = are;
  fewer = λ ids as_ids same. omega arith;
}

module _ (n : ℕ) (old : List (List ℕ)) (i : ℕ) (are : AreRows n old) (i_in : i < n) where
  abbrev row : List ℕ
  row = row_at old i

  abbrev joined : List ℕ → ℕ → ℕ → Bool
  joined js a b = list_any (λ j. joins a b (i, j)) js

  -- what stands in the row at k
  near_at : (k : ℕ) → k < length row → near_has old i (get_or row k 0) ≡ true
  near_at k low = member_at row k low

  pub row_below : (k : ℕ) → k < length row → get_or row k 0 < n
  row_below k low = are.within i (get_or row k 0) (near_at k low)

  -- is none of those before
  not_before : (k : ℕ) → k < length row → joined (take k row) i (get_or row k 0) ≡ false
  not_before k low =
      let j : ℕ = get_or row k 0 in
      false_from_ne_true (joined (take k row) i j) (λ e.
      let at = Any-from_list_any (λ m. joins i j (i, m)) (take k row) e in
      let m_low : at.0 < k = omega (arith, at.2, length-take k row) in
      let m_is : get_or row at.0 0 ≡ at.1 =
      sym (get_or-take k row at.0 0 m_low) ∙ get_or_default (take k row) at.0 0 at.1 at.2 ∙ at.3 in
      ⊎_elim
      (λ (p : (i ≡ i) × (at.1 ≡ j)). absurd (omega (arith, m_is, p.1, rises row (are.ascending i) at.0 k m_low low)))
      (λ (p : (i ≡ j) × (at.1 ≡ i)). both_ways (near_has old i i) (are.irreflexive i)
      (subst (λ x. near_has old i x ≡ true) (sym p.0) (near_at k low)))
      (joins_ends i j (i, at.1) at.4))

  module _ (k : ℕ) (low : k < length row) (new next : List (List ℕ)) (so_far : Isolating n old i k new)
      (taken : Unlinks n new i (get_or row k 0) next) where
    still_near : near_has new i (get_or row k 0) ≡ true
    still_near =
        so_far.members i (get_or row k 0)
        ∙ ap₂ (λ s t. s && not t) (near_at k low) (not_before k low)

    pub isolating_more : Isolating n old i (k + 1) next
    isolating_more = record {
      members = λ a b.
          taken.members a b ∙ ap (λ s. s && not (joins a b (i, get_or row k 0))) (so_far.members a b)
          ∙ and_once_more (near_has old a b) (joined (take k row) a b) (joins a b (i, get_or row k 0))
          ∙ ap (λ s. near_has old a b && not s) (sym (list_any_more (λ j. joins a b (i, j)) row k 0 low));
      as_rows = taken.as_rows;
      fewer = λ ids as_ids same.
          let taken_ids = subst (λ m. Unlinks m new i (get_or row k 0) next) (sym same) taken in
          let rows_ids = subst (λ m. AreRows m new) (sym same) so_far.as_rows in
          let j_in : get_or row k 0 < n = row_below k low in
          omega (
            arith,
            so_far.fewer ids as_ids same,
            two_fewer ids as_ids new next rows_ids i (get_or row k 0) (omega (arith, same)) (omega (arith, same))
                taken_ids still_near,
          );
    }

  -- ---- with all of the row

  -- the links of i are those that join it with its row
  row_joined : (a b : ℕ) → near_has old a b ≡ true → joined row a b ≡ not (not (eqb a i) && not (eqb b i))
  row_joined a b near =
      ⊎_elim
      (λ (first : a ≡ i).
      let at = index_of_member row b (subst (λ x. near_has old x b ≡ true) first near) in
      let there : joined row i b ≡ true =
      list_any_at (λ j. joins i b (i, j)) row at.0 0 at.1
      (subst (λ x. joins i b (i, x) ≡ true) (sym at.2) (joins_own i b)) in
      ap (λ x. joined row x b) first ∙ there
      ∙ sym (ap (λ t. not (not t && not (eqb b i))) (eq-eqb a i first)))
      (λ (apart : a ≢ i).
      ⊎_elim
      (λ (second : b ≡ i).
      let at = index_of_member row a (are.symmetric i a ∙ subst (λ x. near_has old a x ≡ true) second near) in
      let there : joined row a i ≡ true =
      list_any_at (λ j. joins a i (i, j)) row at.0 0 at.1
      (subst (λ x. joins a i (i, x) ≡ true) (sym at.2) (joins_back a i (i, a) ∙ joins_own i a)) in
      ap (λ x. joined row a x) second ∙ there
      ∙ sym (ap₂ (λ s t. not (not s && not t)) (ne_eqb a i apart) (eq-eqb b i second)))
      (λ (neither : b ≢ i).
      false_from_ne_true (joined row a b) (λ e.
      let at = Any-from_list_any (λ m. joins a b (i, m)) row e in
      ⊎_elim (λ (p : (i ≡ a) × (at.1 ≡ b)). apart (sym p.0)) (λ (p : (i ≡ b) × (at.1 ≡ a)). neither (sym p.0))
      (joins_ends a b (i, at.1) at.4))
      ∙ sym (ap₂ (λ s t. not (not s && not t)) (ne_eqb a i apart) (ne_eqb b i neither)))
      (cases_eq b i))
      (cases_eq a i)

  twice_not : (b : Bool) → not (not b) ≡ b
  twice_not true = refl
  twice_not false = refl

  pub isolated : (k : ℕ) (new : List (List ℕ)) → length row ≤ k → Isolating n old i k new → k ≡ length row
      → Isolates n old i new
  isolated k new high all same = record {
    members = λ a b.
        all.members a b ∙ ap (λ js. near_has old a b && not (joined js a b)) (take_all k row high)
        ∙ ⊎_elim
        (λ near.
        ap₂ (λ p s. p && not s) near (row_joined a b near)
        ∙ twice_not (not (eqb a i) && not (eqb b i))
        ∙ ap (λ p. p && (not (eqb a i) && not (eqb b i))) (sym near))
        (λ far.
        ap (λ p. p && not (joined row a b)) far ∙ ap (λ p. p && (not (eqb a i) && not (eqb b i))) (sym far))
        (cases_Bool (near_has old a b));
    as_rows = all.as_rows;
    fewer = λ ids as_ids count. omega (arith, all.fewer ids as_ids count, same);
  }
