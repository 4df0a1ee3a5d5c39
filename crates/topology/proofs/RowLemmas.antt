-- The graph of rows: which ids its rows link.
use Rattle.std.proofs.Common.{◌≡◌, ℕ, zero, suc, ◌+◌, ◌<◌, Bool, true, false, ◌||◌, eqb, List, [], ◌∷◌, Equal, map}
use Rattle.std.proofs.Common.{length, get_or, Option, Some, None, is_some, if◌then◌else◌, position, Vec, Global, Result, is_ok, sym, refl, ap, ap₂}
use Rattle.std.proofs.Common.{subst, ◌∙◌, arith, nat_cmp, eqb-true, eq-eqb}
use Rattle.std.specs.List.{list_any, range_with_len, flat_map}
use Rattle.std.specs.List.Sorted.{IsStrictlyIncreasing, IsBinarySearchResult}
use Rattle.std.specs.FinSet as set
use Rattle.std.specs.FinSet.{slice_cmp-IsAntisymmetric, nat_cmp-IsAntisymmetric}
use Rattle.std.specs.Cmp.{IsTotalOrder, Equal-is, tied_itself}
use Rattle.std.specs.Cmp.Lexicographic.{on_texts}
use Rattle.std.specs.Ordering.{eq_by_cmp, is_eq}
use Rattle.std.proofs.lemmas.List.Folds.{Any-from_list_any, list_any-from_Any, list_any-append}
use Rattle.std.proofs.lemmas.List.FromFn.{get_or-range_with_len}
use Rattle.std.proofs.lemmas.Bool.{both_ways, false_from_ne_true}
use Rattle.std.proofs.lemmas.List.{get_or_default, get_or-map, length-map}
use Rattle.std.proofs.lemmas.List.Quantifiers.{position-Some}
use Rattle.std.specs.Cmp.{both_ways as same_tests}
use Rattle.std.proofs.lemmas.Option.{none-some}
use Rattle.topology.specs.Changing.{IsIndexOf}
use Rattle.topology.specs.Graph.{pair_cmp, are_linked, AreLinked, IsGraph, has, neighbours_of}
use Rattle.topology.specs.Rows.{row_at, near_has, pairs_at, links_of, graph_of, AreIds, AreNodes, AreRows, AreTied}
use Rattle.topology.proofs.Ascending.{contains_from_test, member_at, member_by_index, index_once, filter_by_row}
use Rattle.topology.proofs.Ascending.{member_by_search, test_from_contains}

-- ---- pairs as keys of a set

pub pair_total : IsTotalOrder pair_cmp
pair_total = on_texts (λ (p : ℕ × ℕ). p.0 ∷ p.1 ∷ [])

pub same_pair : (p q : ℕ × ℕ) → eq_by_cmp pair_cmp p q ≡ true → p ≡ q
same_pair p q e =
    let lists : (p.0 ∷ p.1 ∷ []) ≡ (q.0 ∷ q.1 ∷ []) =
    slice_cmp-IsAntisymmetric nat_cmp-IsAntisymmetric _ _ ((Equal-is (pair_cmp p q)).0 e) in
    let first : p.0 ≡ q.0 = cc in
    let second : p.1 ≡ q.1 = cc in
    ap₂ (λ x y. (x, y)) first second

pub pair_antisymmetric : (p q : ℕ × ℕ) → pair_cmp p q ≡ Equal → p ≡ q
pair_antisymmetric p q e = same_pair p q ((Equal-is (pair_cmp p q)).1 e)

pub pair_itself : (p : ℕ × ℕ) → eq_by_cmp pair_cmp p p ≡ true
pair_itself p = ap is_eq (tied_itself pair_total p)

-- ---- a test over the pairs of all rows

any_map : {X Y : Type 0} (t : Y → Bool) (f : X → Y) (xs : List X) → list_any t (map f xs) ≡ list_any (λ x. t (f x)) xs
any_map t f [] = refl
any_map t f (x ∷ xs) = ap (λ b. t (f x) || b) (any_map t f xs)

pub length_range : (a n : ℕ) → length (range_with_len a n) ≡ n
length_range a zero = refl
length_range a (suc n) = ap suc (length_range (a + 1) n)

-- the indexes whose ids are a and b, the second in the row of the first
pub record Linked (ids : List ℕ) (rows : List (List ℕ)) (a b : ℕ) : Type 0 where
  pub i : ℕ
  pub j : ℕ
  pub within : i < length ids
  pub near : near_has rows i j ≡ true
  pub first : get_or ids i 0 ≡ a
  pub second : get_or ids j 0 ≡ b

module _ (ids : List ℕ) (rows : List (List ℕ)) where
  -- whether the row of i has an index of b, where a is the id at i
  abbrev row_links : ℕ → ℕ → ℕ → Bool
  row_links a b i = list_any (λ j. eq_by_cmp pair_cmp (a, b) (get_or ids i 0, get_or ids j 0)) (row_at rows i)

  any_row : (a b : ℕ) (is : List ℕ)
      → list_any (eq_by_cmp pair_cmp (a, b)) (flat_map (pairs_at ids rows) is) ≡ list_any (row_links a b) is
  any_row a b [] = refl
  any_row a b (i ∷ is) =
      list_any-append (eq_by_cmp pair_cmp (a, b)) (pairs_at ids rows i) (flat_map (pairs_at ids rows) is)
      ∙ ap₂ (λ x y. x || y)
      (any_map (eq_by_cmp pair_cmp (a, b)) (λ j. (get_or ids i 0, get_or ids j 0)) (row_at rows i)) (any_row a b is)

  linked_by_rows : (a b : ℕ)
      → are_linked (graph_of ids ids rows) a b ≡ list_any (row_links a b) (range_with_len 0 (length ids))
  unfolding links_of
  linked_by_rows a b =
      set.contains-from_list pair_total (flat_map (pairs_at ids rows) (range_with_len 0 (length ids))) (a, b)
      ∙ any_row a b (range_with_len 0 (length ids))

  pub linked_from : (a b : ℕ) → AreLinked (graph_of ids ids rows) a b → Linked ids rows a b
  linked_from a b e =
      let row = Any-from_list_any (row_links a b) (range_with_len 0 (length ids)) (sym (linked_by_rows a b) ∙ e) in
      let i = row.1 in
      let low : row.0 < length ids = subst (λ n. row.0 < n) (length_range 0 (length ids)) row.2 in
      let at : row.0 ≡ i = sym (get_or-range_with_len 0 (length ids) row.0 i low ∙ omega arith) ∙ row.3 in
      let entry =
      Any-from_list_any (λ j. eq_by_cmp pair_cmp (a, b) (get_or ids i 0, get_or ids j 0)) (row_at rows i) row.4 in
      let j = entry.1 in
      let same : ◌≡◌ {A = ℕ × ℕ} (a, b) (get_or ids i 0, get_or ids j 0) =
      same_pair (a, b) (get_or ids i 0, get_or ids j 0) entry.4 in
      record {
        i = i;
        j = j;
        within = subst (λ n. n < length ids) at low;
        near = list_any-from_Any (λ y. eqb y j) (row_at rows i) (entry.0, j, entry.2, entry.3, eq-eqb j j refl);
        first = ap (λ (p : ℕ × ℕ). p.0) (sym same);
        second = ap (λ (p : ℕ × ℕ). p.1) (sym same);
      }

  pub linked_to : (i j : ℕ) → i < length ids → near_has rows i j ≡ true
      → AreLinked (graph_of ids ids rows) (get_or ids i 0) (get_or ids j 0)
  linked_to i j within e =
      let a = get_or ids i 0 in
      let b = get_or ids j 0 in
      let entry = Any-from_list_any (λ y. eqb y j) (row_at rows i) e in
      let same : entry.1 ≡ j = eqb-true entry.1 j entry.4 in
      let here : row_links a b i ≡ true =
      list_any-from_Any (λ j. eq_by_cmp pair_cmp (a, b) (get_or ids i 0, get_or ids j 0)) (row_at rows i) (
        entry.0,
        entry.1,
        entry.2,
        entry.3,
        subst (λ k. eq_by_cmp pair_cmp (a, b) (a, get_or ids k 0) ≡ true) (sym same)
            (pair_itself (a, b)),
      ) in
      linked_by_rows a b ∙ list_any-from_Any (row_links a b) (range_with_len 0 (length ids)) (
        i,
        i,
        subst (λ n. i < n) (sym (length_range 0 (length ids))) within,
        get_or-range_with_len 0 (length ids) i i
            within ∙ omega arith,
        here,
      )

  module _ (up : IsStrictlyIncreasing ids) (as_rows : AreRows (length ids) rows) where
    -- the ids at two indexes are linked where the row of one has the other
    pub linked_at : (i j : ℕ) → i < length ids → j < length ids
        → are_linked (graph_of ids ids rows) (get_or ids i 0) (get_or ids j 0) ≡ near_has rows i j
    linked_at i j i_in j_in =
        same_tests _ _
        (λ e.
        let l = linked_from (get_or ids i 0) (get_or ids j 0) e in
        let j_low : l.j < length ids = as_rows.within l.i l.j l.near in
        let same_i : l.i ≡ i = index_once ids up l.i i l.within i_in l.first in
        let same_j : l.j ≡ j = index_once ids up l.j j j_low j_in l.second in
        subst (λ y. near_has rows i y ≡ true) same_j (subst (λ x. near_has rows x l.j ≡ true) same_i l.near))
        (λ e. linked_to i j i_in e)

    pub linked_symmetric : (a b : ℕ) → AreLinked (graph_of ids ids rows) a b → AreLinked (graph_of ids ids rows) b a
    linked_symmetric a b e =
        let l = linked_from a b e in
        let back = linked_to l.j l.i (as_rows.within l.i l.j l.near) (as_rows.symmetric l.j l.i ∙ l.near) in
        subst (λ y. AreLinked (graph_of ids ids rows) b y) l.first
        (subst (λ x. AreLinked (graph_of ids ids rows) x (get_or ids l.i 0)) l.second back)

    -- what rows make is a graph, whichever of the ids its links join are the nodes
    pub graph_of_rows : (nodes : List ℕ) → 0 < length ids → AreNodes ids nodes
        → ((i j : ℕ) → near_has rows i j ≡ true → has nodes (get_or ids i 0) ≡ true)
        → IsGraph (graph_of ids nodes rows)
    graph_of_rows nodes some as_nodes joins_nodes = record {
      some = some;
      ascending = up;
      rising = as_nodes.rising;
      within = as_nodes.within;
      symmetric = λ a b. same_tests _ _ (linked_symmetric a b) (linked_symmetric b a);
      irreflexive = λ a e.
          let l = linked_from a a e in
          let same : l.i ≡ l.j =
          index_once ids up l.i l.j l.within (as_rows.within l.i l.j l.near) (l.first ∙ sym l.second) in
          both_ways (near_has rows l.j l.j) (as_rows.irreflexive l.j)
          (subst (λ k. near_has rows k l.j ≡ true) same l.near);
      ends = λ a b e.
          let l = linked_from a b e in
          contains_from_test nodes a (subst (λ x. has nodes x ≡ true) l.first (joins_nodes l.i l.j l.near));
    }

    -- the ids at the row of an index are the neighbours of its id
    pub neighbours_at : (i : ℕ) → i < length ids
        → map (λ n. get_or ids n 0) (row_at rows i) ≡ neighbours_of (graph_of ids ids rows) (get_or ids i 0)
    neighbours_at i i_in =
        filter_by_row (are_linked (graph_of ids ids rows) (get_or ids i 0)) ids (row_at rows i) (as_rows.ascending i)
        (λ j e. as_rows.within i j e)
        (λ k k_in. linked_at i k i_in k_in)

    -- what the index of a number tells of its link with the id at another
    pub linked_at_index : (i b j : ℕ) → i < length ids → Some j ≡ position (λ k. eqb k b) ids
        → near_has rows i j ≡ are_linked (graph_of ids ids rows) (get_or ids i 0) b
    linked_at_index i b j i_in at_b =
        let index = position-Some (λ k. eqb k b) ids j 0 (sym at_b) in
        sym (linked_at i j i_in index.0)
        ∙ ap (are_linked (graph_of ids ids rows) (get_or ids i 0)) (eqb-true (get_or ids j 0) b index.1)

pub tied_graph : (ids nodes : List ℕ) (rows : List (List ℕ)) → AreTied ids nodes rows → IsGraph (graph_of ids nodes rows)
tied_graph ids nodes rows tied =
    graph_of_rows ids rows tied.as_ids.ascending tied.as_rows nodes tied.as_ids.some tied.as_nodes tied.ends

-- an index with a row that isn't empty is one of an id
pub row_of_id : (n : ℕ) (rows : List (List ℕ)) → AreRows n rows → (i j : ℕ) → near_has rows i j ≡ true → i < n
row_of_id n rows are i j near = are.within j i (are.symmetric j i ∙ near)

-- where all ids are up, rows join nodes alone
pub all_tied : (ids : List ℕ) (rows : List (List ℕ)) → AreIds ids → AreRows (length ids) rows → AreTied ids ids rows
all_tied ids rows as_ids as_rows = record {
  as_ids = as_ids;
  as_nodes = record { rising = as_ids.ascending; within = λ i at. at };
  as_rows = as_rows;
  ends = λ i j near. member_at ids i (row_of_id (length ids) rows as_rows i j near);
}

-- the index of a node among all ids
abbrev pub index_if_node : List ℕ → List ℕ → ℕ → Option ℕ
index_if_node ids nodes x = if has nodes x then position (λ k. eqb k x) ids else None

-- a node has the index of its id
pub node_index : (ids nodes : List ℕ) (x i : ℕ) → Some i ≡ index_if_node ids nodes x
    → (Some i ≡ position (λ k. eqb k x) ids) × (has nodes x ≡ true)
node_index ids nodes x i at = cases (has nodes x) refl
  where
    cases : (b : Bool) → has nodes x ≡ b → (Some i ≡ position (λ k. eqb k x) ids) × (has nodes x ≡ true)
    cases true is = (rw is at at, is)
    cases false is = absurd (none-some i (sym (rw is at at)))

-- and stands there
pub index_found : (ids nodes : List ℕ) (x i : ℕ) → Some i ≡ index_if_node ids nodes x → IsIndexOf ids x i
index_found ids nodes x i at =
    let found = position-Some (λ k. eqb k x) ids i 0 (sym (node_index ids nodes x i at).0) in
    (found.0, eqb-true (get_or ids i 0) x found.1)

-- what has no such index is no node
pub no_node_index : (ids nodes : List ℕ) → AreNodes ids nodes → (x : ℕ) → None ≡ index_if_node ids nodes x
    → has nodes x ≡ false
no_node_index ids nodes as_nodes x at = cases (has nodes x) refl
  where
    cases : (b : Bool) → has nodes x ≡ b → has nodes x ≡ false
    cases false is = is
    cases true is =
        let none : None ≡ position (λ k. eqb k x) ids = rw is at at in
        let absent : false ≡ has ids x = member_by_index ids x None none in
        absurd (both_ways (has ids x) (sym absent)
        (test_from_contains ids x (as_nodes.within x (contains_from_test nodes x is))))

-- nodes are what has such an index
pub node_by_index : (ids nodes : List ℕ) → AreNodes ids nodes → (x : ℕ) (o : Option ℕ) → o ≡ index_if_node ids nodes x
    → is_some o ≡ has nodes x
node_by_index ids nodes as_nodes x (Some i) at = sym (node_index ids nodes x i at).1
node_by_index ids nodes as_nodes x None at = sym (no_node_index ids nodes as_nodes x at)

-- what is no node has no link
module _ (ids nodes : List ℕ) (rows : List (List ℕ)) (tied : AreTied ids nodes rows) where
  pub strange_first : (a b : ℕ) → has nodes a ≡ false → are_linked (graph_of ids nodes rows) a b ≡ false
  strange_first a b none =
      false_from_ne_true _ (λ e.
      let l = linked_from ids rows a b e in
      both_ways (has nodes a) none (subst (λ x. has nodes x ≡ true) l.first (tied.ends l.i l.j l.near)))

  pub strange_second : (a b : ℕ) → has nodes b ≡ false → are_linked (graph_of ids nodes rows) a b ≡ false
  strange_second a b none =
      (tied_graph ids nodes rows tied).symmetric a b ∙ strange_first b a none

module _ (n : ℕ) (near : List (Vec ℕ Global)) (as_rows : AreRows n (map (λ r. r.items) near)) (i : ℕ)
    (row : Vec ℕ Global) (within : i < n) (read : row ≡ get_or near i row) where
  -- the row of an index, as the items of a vector of vectors
  pub row_here : row_at (map (λ r. r.items) near) i ≡ row.items
  row_here =
      get_or-map (λ r. r.items) near i row []
      (subst (λ k. i < k) (sym as_rows.count ∙ length-map near (λ r. r.items)) within)
      ∙ ap (λ r. r.items) (sym read)

  pub row_ascends : IsStrictlyIncreasing row.items
  row_ascends = subst IsStrictlyIncreasing row_here (as_rows.ascending i)

  pub row_within : (k d : ℕ) → k < length row.items → get_or row.items k d < n
  row_within k d k_in =
      let e : near_has (map (λ r. r.items) near) i (get_or row.items k 0) ≡ true =
      ap (λ xs. list_any (λ y. eqb y (get_or row.items k 0)) xs) row_here ∙ member_at row.items k k_in in
      subst (λ x. x < n) (get_or_default row.items k 0 d k_in) (as_rows.within i (get_or row.items k 0) e)

  -- a search in the row finds what the row has
  pub found_in_row : (j : ℕ) (r : Result ℕ ℕ) → IsBinarySearchResult (λ y. nat_cmp y j) row.items r
      → is_ok r ≡ near_has (map (λ r. r.items) near) i j
  found_in_row j r h =
      member_by_search row.items j row_ascends r h ∙ ap (λ xs. list_any (λ y. eqb y j) xs) (sym row_here)

pub row_neighbours : (ids : List ℕ) (near : List (Vec ℕ Global)) → AreRows (length ids) (map (λ r. r.items) near)
    → (i : ℕ) (row : Vec ℕ Global) → i < length ids → row ≡ get_or near i row →
    IsStrictlyIncreasing ids
    → map (λ n. get_or ids n 0) row.items ≡ neighbours_of (graph_of ids ids (map (λ r. r.items) near)) (get_or ids i 0)
row_neighbours ids near as_rows i row within read up =
    ap (map (λ n. get_or ids n 0)) (sym (row_here (length ids) near as_rows i row within read))
    ∙ neighbours_at ids (map (λ r. r.items) near) up as_rows i within

-- a search for the index of a number, in the row of another, tells whether the two are linked
pub linked_by_search : (ids : List ℕ) (near : List (Vec ℕ Global)) → AreRows (length ids) (map (λ r. r.items) near)
    → IsStrictlyIncreasing ids → (i : ℕ) (row : Vec ℕ Global) → i < length ids → row ≡ get_or near i row →
    (b j : ℕ) → Some j ≡ position (λ k. eqb k b) ids → (r : Result ℕ ℕ)
    → IsBinarySearchResult (λ y. nat_cmp y j) row.items r
    → is_ok r ≡ are_linked (graph_of ids ids (map (λ r. r.items) near)) (get_or ids i 0) b
linked_by_search ids near as_rows up i row within read b j at_b r h =
    found_in_row (length ids) near as_rows i row within read j r h
    ∙ linked_at_index ids (map (λ r. r.items) near) up as_rows i b j within at_b
