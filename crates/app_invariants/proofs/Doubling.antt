-- The rows of the graph in which each identifier stands twice.
use Rattle.std.proofs.Common.{◌≡◌, ℕ, ◌+◌, ◌-◌, ◌<◌, ◌≤◌, ◌⊎◌, true, false, true≢false, List, [], ◌∷◌, ◌++◌, length, map}
use Rattle.std.proofs.Common.{Bool, not, eqb, eq-eqb, ne_eqb, get_or, Contains, All, inl, inr, refl, sym, ap, ◌∙◌, subst, arith, ⊎_elim}
use Rattle.std.specs.List.Sorted.{IsStrictlyIncreasing}
use Rattle.std.specs.Cmp.{both_ways as same_tests}
use Rattle.std.proofs.lemmas.Bool.{cases_Bool, cases_eq, cases_lt}
use Rattle.std.proofs.lemmas.List.{get_or-map, get_or_append_left, get_or_default, get_or_past, get_or_push, length-map}
use Rattle.std.proofs.lemmas.List.{length_push}
use Rattle.topology.specs.Graph.{Graph, IsGraph, AreLinked, has, neighbours_of}
use Rattle.topology.specs.Rows.{AreRows, near_has, row_at}
use Rattle.topology.proofs.Ascending.{index_once}
use Rattle.topology.proofs.Membership.{Contains-has, has-Contains}
use Rattle.topology.proofs.Walks.{linked_back}
use Rattle.app_invariants.specs.LawsOfCounts.{near_linked}
use Rattle.app_invariants.specs.Parities.{AreDoubled, PushesShifted, ShiftsNear}

-- ---- one row

module _ (g : Graph) (are : IsGraph g) (shift k : ℕ) (near : List ℕ)
    (is_near : map (λ n. get_or g.ids n 0) near ≡ neighbours_of g (get_or g.ids k 0))
    (within : All (λ n. n < length g.ids) near) (up : IsStrictlyIncreasing near) where
  abbrev shifted : List ℕ
  shifted = map (λ n. shift + n) near

  at_place : (p d : ℕ) → p < length near → get_or shifted p d ≡ shift + get_or near p 0
  at_place p d lt = get_or-map (λ n. shift + n) near p 0 d lt

  long : length shifted ≡ length near
  long = length-map near (λ n. shift + n)

  id_at : (p d : ℕ) → p < length near → get_or (map (λ n. get_or g.ids n 0) near) p d ≡ get_or g.ids (get_or near p 0) 0
  id_at p d lt = get_or-map (λ n. get_or g.ids n 0) near p 0 d lt

  ids_long : length (map (λ n. get_or g.ids n 0) near) ≡ length near
  ids_long = length-map near (λ n. get_or g.ids n 0)

  row_only : (j : ℕ) → has shifted j ≡ true
      → (i : ℕ) × (i < length g.ids) × (j ≡ shift + i) × AreLinked g (get_or g.ids k 0) (get_or g.ids i 0)
  row_only j h =
      let at = Contains-has shifted j h in
      let lt : at.0 < length near = omega (arith, at.1, long) in
      let i = get_or near at.0 0 in
      let there : Contains (map (λ n. get_or g.ids n 0) near) (get_or g.ids i 0) =
      (at.0, omega (arith, lt, ids_long), id_at at.0 _ lt) in (
        i,
        within at.0 0 lt,
        sym at.2 ∙ at_place at.0 j lt,
        (near_linked g (get_or g.ids k 0) (get_or g.ids i 0) are).0
            (subst (λ xs. Contains xs (get_or g.ids i 0)) is_near there),
      )

  row_all : (i : ℕ) → i < length g.ids → AreLinked g (get_or g.ids k 0) (get_or g.ids i 0) → has shifted (shift + i) ≡ true
  row_all i i_in linked =
      let at =
      subst (λ xs. Contains xs (get_or g.ids i 0)) (sym is_near)
      ((near_linked g (get_or g.ids k 0) (get_or g.ids i 0) are).1 linked) in
      let lt : at.0 < length near = omega (arith, at.1, ids_long) in
      let same : get_or near at.0 0 ≡ i =
      index_once g.ids are.ascending (get_or near at.0 0) i (within at.0 0 lt) i_in
      (sym (id_at at.0 (get_or g.ids i 0) lt) ∙ at.2) in
      has-Contains shifted (shift + i)
      (at.0, omega (arith, lt, long), at_place at.0 (shift + i) lt ∙ ap (λ n. shift + n) same)

  pub shifts : ShiftsNear g shift k shifted
  shifts = record {
    ascending = λ p lt.
        let low : p + 1 < length near = omega (arith, lt, long) in
        omega (arith, at_place p 0 (omega arith), at_place (p + 1) 0 low, up p low);
    only = row_only;
    all = row_all;
  }

-- ---- the first link

-- what the test for 0 tells
pub not_none : (n : ℕ) (b : Bool) → b ≡ eqb n 0 → not b ≡ true → 0 < n
not_none n b is t =
    ⊎_elim (λ none. absurd (true≢false (sym t ∙ ap not (is ∙ eq-eqb n 0 none)))) (λ some. omega (arith, some)) (cases_eq n 0)

pub is_none : (n : ℕ) (b : Bool) → b ≡ eqb n 0 → not b ≡ false → n ≡ 0
is_none n b is f =
    ⊎_elim (λ none. none) (λ some. absurd (true≢false (sym (ap not (is ∙ ne_eqb n 0 some)) ∙ f))) (cases_eq n 0)

module _ (g : Graph) (are : IsGraph g) (k : ℕ) (near : List ℕ)
    (is_near : map (λ n. get_or g.ids n 0) near ≡ neighbours_of g (get_or g.ids k 0)) where
  near_count : length (map (λ n. get_or g.ids n 0) near) ≡ length near
  near_count = length-map near (λ n. get_or g.ids n 0)

  pub some_link : 0 < length near → (j : ℕ) × AreLinked g (get_or g.ids k 0) j
  some_link some =
      let j = get_or (map (λ n. get_or g.ids n 0) near) 0 0 in
      let there : Contains (map (λ n. get_or g.ids n 0) near) j =
      (0, omega (arith, some, near_count), get_or_default (map (λ n. get_or g.ids n 0) near) 0 j 0 (omega (arith, some, near_count))) in
      (j, (near_linked g (get_or g.ids k 0) j are).0 (subst (λ xs. Contains xs j) is_near there))

  pub no_link : length near ≡ 0 → (j : ℕ) → AreLinked g (get_or g.ids k 0) j → ⊥
  no_link none j linked =
      let at = (near_linked g (get_or g.ids k 0) j are).1 linked in
      omega (arith, at.1, ap length is_near, near_count, none)

-- ---- one row after another

pub push_row : (g : Graph) (shift i : ℕ) (old now : List (List ℕ)) → PushesShifted g shift i old now → (row : List ℕ)
    → ShiftsNear g shift i row → (new : List (List ℕ)) → new ≡ now ++ row ∷ []
    → PushesShifted g shift (i + 1) old new
push_row g shift i old now so_far row one new pushed =
    let before : (k : ℕ) → k < length now → row_at new k ≡ row_at now k =
    λ k lt. ap (λ rows. row_at rows k) pushed ∙ get_or_append_left now (row ∷ []) [] k lt in
    record {
      total = ap length pushed ∙ length_push now row ∙ omega (arith, so_far.total);
      kept = λ k lt. before k (omega (arith, so_far.total)) ∙ so_far.kept k lt;
      pushed = λ k lt.
          ⊎_elim
          (λ same.
          let at : length now ≡ length old + k = omega (arith, so_far.total, same) in
          let here : row_at new (length old + k) ≡ row =
          ap (λ rows. row_at rows (length old + k)) pushed ∙ get_or_push now row [] (length old + k) at in
          subst (ShiftsNear g shift k) (sym here) (subst (λ n. ShiftsNear g shift n row) (sym same) one))
          (λ other.
          subst (ShiftsNear g shift k) (sym (before (length old + k) (omega (arith, so_far.total, lt, other))))
          (so_far.pushed k (omega (arith, lt, other))))
          (cases_eq k i);
    }

pub no_rows_yet : (g : Graph) (shift : ℕ) (old : List (List ℕ)) → PushesShifted g shift 0 old old
no_rows_yet g shift old = record {
  total = omega arith;
  kept = λ k lt. refl;
  pushed = λ k lt. absurd (omega (arith, lt));
}

-- even places, and then odd ones
pub doubled_rows : (g : Graph) (rows new : List (List ℕ)) → PushesShifted g (length g.ids) (length g.ids) [] rows
    → PushesShifted g 0 (length g.ids) rows new → AreDoubled g new
doubled_rows g rows new first second =
    let n = length g.ids in
    let long : length rows ≡ n = first.total ∙ omega arith in
    let even : (k : ℕ) → k < n → row_at rows k ≡ row_at new k = λ k lt. sym (second.kept k (omega (arith, lt, long))) in
    record {
      count = second.total ∙ omega (arith, long);
      even = λ k lt.
          subst (ShiftsNear g n k) (ap (row_at rows) (omega arith) ∙ even k lt) (first.pushed k lt);
      odd = λ k lt.
          subst (λ m. ShiftsNear g 0 k (row_at new (m + k))) long (second.pushed k lt);
    }

-- ---- the rows are those of a graph

-- a link of two indexes, from an even place to an odd one or the other way
pub record Joins (g : Graph) (i j : ℕ) : Type 0 where
  pub from : ℕ
  pub to : ℕ
  pub from_in : from < length g.ids
  pub to_in : to < length g.ids
  pub linked : AreLinked g (get_or g.ids from 0) (get_or g.ids to 0)
  pub places : ((i ≡ from) × (j ≡ length g.ids + to)) ⊎ ((i ≡ length g.ids + from) × (j ≡ to))

module _ (g : Graph) (are : IsGraph g) (rows : List (List ℕ)) (doubled : AreDoubled g rows) where
  abbrev n : ℕ
  n = length g.ids

  past : (i : ℕ) → n + n ≤ i → row_at rows i ≡ []
  past i high = get_or_past rows i [] (omega (arith, high, doubled.count))

  pub joins : (i j : ℕ) → near_has rows i j ≡ true → Joins g i j
  joins i j h =
      ⊎_elim
      (λ low.
      let at = (doubled.even i low).only j h in
      record {
        from = i;
        to = at.0;
        from_in = low;
        to_in = at.1;
        linked = at.3;
        places = inl (refl, at.2);
      })
      (λ high. ⊎_elim
      (λ below.
      let k = i - n in
      let k_in : k < n = omega (arith, high, below) in
      let same : i ≡ n + k = omega (arith, high) in
      let at = (doubled.odd k k_in).only j (subst (λ m. near_has rows m j ≡ true) same h) in
      record {
        from = k;
        to = at.0;
        from_in = k_in;
        to_in = at.1;
        linked = at.3;
        places = inr (same, omega (arith, at.2));
      })
      (λ above. absurd (true≢false (sym h ∙ ap (λ row. has row j) (past i above))))
      (cases_lt i (n + n)))
      (cases_lt i n)

  pub to_odd : (a b : ℕ) → a < n → b < n → AreLinked g (get_or g.ids a 0) (get_or g.ids b 0)
      → near_has rows a (n + b) ≡ true
  to_odd a b a_in b_in linked = (doubled.even a a_in).all b b_in linked

  pub to_even : (a b : ℕ) → a < n → b < n → AreLinked g (get_or g.ids a 0) (get_or g.ids b 0)
      → near_has rows (n + a) b ≡ true
  to_even a b a_in b_in linked =
      subst (λ m. near_has rows (n + a) m ≡ true) (omega arith) ((doubled.odd a a_in).all b b_in linked)

  back : (i j : ℕ) → near_has rows i j ≡ true → near_has rows j i ≡ true
  back i j h =
      let l = joins i j h in
      let turned = linked_back g are (get_or g.ids l.from 0) (get_or g.ids l.to 0) l.linked in
      ⊎_elim
      (λ even.
      subst (λ m. near_has rows j m ≡ true) (sym even.0)
      (subst (λ m. near_has rows m l.from ≡ true) (sym even.1) (to_even l.to l.from l.to_in l.from_in turned)))
      (λ odd.
      subst (λ m. near_has rows j m ≡ true) (sym odd.0)
      (subst (λ m. near_has rows m (n + l.from) ≡ true) (sym odd.1) (to_odd l.to l.from l.to_in l.from_in turned)))
      l.places

  pub are_rows : AreRows (n + n) rows
  are_rows = record {
    count = doubled.count;
    ascending = λ i.
        ⊎_elim
        (λ low. (doubled.even i low).ascending)
        (λ high. ⊎_elim
        (λ below.
        let same : n + (i - n) ≡ i = omega (arith, high) in
        subst (λ m. IsStrictlyIncreasing (row_at rows m)) same (doubled.odd (i - n) (omega (arith, high, below))).ascending)
        (λ above. subst IsStrictlyIncreasing (sym (past i above)) (λ k lt. absurd (omega (arith, lt))))
        (cases_lt i (n + n)))
        (cases_lt i n);
    within = λ i j h.
        let l = joins i j h in
        ⊎_elim (λ even. omega (arith, even.1, l.to_in)) (λ odd. omega (arith, odd.1, l.to_in)) l.places;
    symmetric = λ i j. same_tests _ _ (back i j) (back j i);
    irreflexive = λ i.
        ⊎_elim
        (λ h. let l = joins i i h in
        ⊎_elim
        (λ even. absurd (omega (arith, even.0, even.1, l.from_in)))
        (λ odd. absurd (omega (arith, odd.0, odd.1, l.to_in)))
        l.places)
        (λ none. none)
        (cases_Bool (near_has rows i i));
  }
