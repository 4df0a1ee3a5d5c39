-- The graph of rows to which one link came, or from which one link went.
use Rattle.std.proofs.Common.{◌≡◌, ◌≢◌, ℕ, ◌+◌, ◌<◌, ◌≤◌, Bool, true, false, not, ◌&&◌, ◌||◌, ◌⊎◌, List}
use Rattle.std.proofs.Common.{length, get_or, inl, inr, sym, refl}
use Rattle.std.proofs.Common.{ap, ap₂, subst, ◌∙◌, arith, ⊎_elim, ◌*◌, eqb, eqb-true, eq-eqb, filter}
use Rattle.std.specs.Cmp.{both_ways as same_tests}
use Rattle.std.specs.List.Sorted.{IsStrictlyIncreasing}
use Rattle.std.specs.FinSet as set
use Rattle.std.specs.Ordering.{eq_by_cmp}
use Rattle.std.proofs.lemmas.Bool.{and_from, and_parts, cases_Bool, both_ways, false_from_ne_true, or_cases, or_left}
use Rattle.topology.specs.Building.{joins, Isolates, Links, Unlinks}
use Rattle.topology.specs.Changing.{members_with, with_link, with_node, without_link, without_node}
use Rattle.topology.specs.Graph.{Graph, pair_cmp, are_linked, has}
use Rattle.topology.specs.Rows.{row_at, near_has, links_of, graph_of, Membership, AreIds, AreLeadersOf, AreRows}
use Rattle.topology.specs.Rows.{AreParts}
use Rattle.topology.proofs.Ascending.{member_at, index_of_member, index_once}
use Rattle.topology.proofs.Counting.{len_both, one_direction}
use Rattle.topology.proofs.Inserting.{joins_ends, joins_own}
use Rattle.topology.proofs.Joining.{joins_indexes}
use Rattle.topology.proofs.Indexes.{nodes_among, nodes_without}
use Rattle.topology.proofs.Membership.{has-filter}
use Rattle.topology.proofs.RowLemmas.{all_tied, linked_at, linked_from, pair_antisymmetric, pair_total}
use Rattle.topology.proofs.RowLemmas.{row_of_id, tied_graph}

-- ---- the pairs of a set that one link came to, or went from

or_last : (x y s : Bool) → (y || (x || s)) ≡ (s || (x || y))
or_last true true true = refl
or_last true true false = refl
or_last true false true = refl
or_last true false false = refl
or_last false true true = refl
or_last false true false = refl
or_last false false true = refl
or_last false false false = refl

and_last : (x y s : Bool) → (not y && (not x && s)) ≡ (s && not (x || y))
and_last true true true = refl
and_last true true false = refl
and_last true false true = refl
and_last true false false = refl
and_last false true true = refl
and_last false true false = refl
and_last false false true = refl
and_last false false false = refl

module _ (s : set.FinSet pair_cmp) (a b : ℕ) (q : ℕ × ℕ) where
  pub has_more : set.contains (set.insert (set.insert s (a, b)) (b, a)) q ≡ (set.contains s q || joins q.0 q.1 (a, b))
  has_more =
      set.contains-insert pair_total (set.insert s (a, b)) (b, a) q
      ∙ ap (λ t. eq_by_cmp pair_cmp q (b, a) || t) (set.contains-insert pair_total s (a, b) q)
      ∙ or_last (eq_by_cmp pair_cmp q (a, b)) (eq_by_cmp pair_cmp q (b, a)) (set.contains s q)
      ∙ ap (λ t. set.contains s q || t) (one_direction q.0 q.1 (a, b))

  pub has_fewer : set.contains (set.remove (set.remove s (a, b)) (b, a)) q
      ≡ (set.contains s q && not (joins q.0 q.1 (a, b)))
  has_fewer =
      set.contains-remove pair_total (set.remove s (a, b)) (b, a) q
      ∙ ap (λ t. not (eq_by_cmp pair_cmp q (b, a)) && t) (set.contains-remove pair_total s (a, b) q)
      ∙ and_last (eq_by_cmp pair_cmp q (a, b)) (eq_by_cmp pair_cmp q (b, a)) (set.contains s q)
      ∙ ap (λ t. set.contains s q && not t) (one_direction q.0 q.1 (a, b))

-- ---- tests of two numbers, at the ids and elsewhere

-- two tests agree that agree at the ids, and where one of the numbers is none of them
by_indexes : (ids : List ℕ) (s t : ℕ → ℕ → Bool)
    → ((k l : ℕ) → k < length ids → l < length ids
    → s (get_or ids k 0) (get_or ids l 0) ≡ t (get_or ids k 0) (get_or ids l 0)) →
    ((x y : ℕ) → ((has ids x ≡ false) ⊎ (has ids y ≡ false)) → s x y ≡ t x y) → (x y : ℕ) → s x y ≡ t x y
by_indexes ids s t at off x y =
    ⊎_elim
    (λ x_in. ⊎_elim
    (λ y_in.
    let k = index_of_member ids x x_in in
    let l = index_of_member ids y y_in in
    subst (λ v. s v y ≡ t v y) k.2
    (subst (λ w. s (get_or ids k.0 0) w ≡ t (get_or ids k.0 0) w) l.2 (at k.0 l.0 k.1 l.1)))
    (λ none. off x y (inr none))
    (cases_Bool (has ids y)))
    (λ none. off x y (inl none))
    (cases_Bool (has ids x))

-- a number that is none of the ids has no link
no_link : (ids : List ℕ) (rows : List (List ℕ)) → AreRows (length ids) rows → (x y : ℕ)
    → ((has ids x ≡ false) ⊎ (has ids y ≡ false)) → are_linked (graph_of ids ids rows) x y ≡ false
no_link ids rows as_rows x y none =
    false_from_ne_true _ (λ e.
    let l = linked_from ids rows x y e in
    ⊎_elim
    (λ no_x. both_ways (has ids x) no_x (subst (λ z. has ids z ≡ true) l.first (member_at ids l.i l.within)))
    (λ no_y. both_ways (has ids y) no_y
    (subst (λ z. has ids z ≡ true) l.second (member_at ids l.j (as_rows.within l.i l.j l.near))))
    none)

module _ (ids : List ℕ) (up : IsStrictlyIncreasing ids) (i j : ℕ) (i_in : i < length ids) (j_in : j < length ids) where
  abbrev a : ℕ
  a = get_or ids i 0

  abbrev b : ℕ
  b = get_or ids j 0

  -- and is no end of a link of ids
  no_join : (x y : ℕ) → ((has ids x ≡ false) ⊎ (has ids y ≡ false)) → joins x y (a, b) ≡ false
  no_join x y none =
      false_from_ne_true _ (λ e.
      ⊎_elim
      (λ (p : (a ≡ x) × (b ≡ y)). ⊎_elim
      (λ no_x. both_ways (has ids x) no_x (subst (λ z. has ids z ≡ true) p.0 (member_at ids i i_in)))
      (λ no_y. both_ways (has ids y) no_y (subst (λ z. has ids z ≡ true) p.1 (member_at ids j j_in)))
      none)
      (λ (p : (a ≡ y) × (b ≡ x)). ⊎_elim
      (λ no_x. both_ways (has ids x) no_x (subst (λ z. has ids z ≡ true) p.1 (member_at ids j j_in)))
      (λ no_y. both_ways (has ids y) no_y (subst (λ z. has ids z ≡ true) p.0 (member_at ids i i_in)))
      none)
      (joins_ends x y (a, b) e))

  module _ (rows new : List (List ℕ)) (was : AreRows (length ids) rows) (are : AreRows (length ids) new) where
    module _ (members : (x y : ℕ) → near_has new x y ≡ (near_has rows x y || joins x y (i, j))) where
      pub linked_more : (x y : ℕ)
          → are_linked (graph_of ids ids new) x y ≡ (are_linked (graph_of ids ids rows) x y || joins x y (a, b))
      linked_more =
          by_indexes ids (are_linked (graph_of ids ids new)) (λ x y. are_linked (graph_of ids ids rows) x y || joins x y (a, b))
          (λ k l k_in l_in.
          linked_at ids new up are k l k_in l_in ∙ members k l
          ∙ ap₂ (λ s t. s || t) (sym (linked_at ids rows up was k l k_in l_in))
          (joins_indexes ids up i j i_in j_in k l k_in l_in))
          (λ x y none. no_link ids new are x y none
          ∙ sym (ap₂ (λ s t. s || t) (no_link ids rows was x y none) (no_join x y none)))

      pub links_more : links_of ids new ≡ set.insert (set.insert (links_of ids rows) (a, b)) (b, a)
      links_more =
          set.same_set pair_total pair_antisymmetric _ _
          (λ q. linked_more q.0 q.1 ∙ sym (has_more (links_of ids rows) a b q))

    module _ (members : (x y : ℕ) → near_has new x y ≡ (near_has rows x y && not (joins x y (i, j)))) where
      pub linked_fewer : (x y : ℕ)
          → are_linked (graph_of ids ids new) x y ≡ (are_linked (graph_of ids ids rows) x y && not (joins x y (a, b)))
      linked_fewer =
          by_indexes ids (are_linked (graph_of ids ids new))
          (λ x y. are_linked (graph_of ids ids rows) x y && not (joins x y (a, b)))
          (λ k l k_in l_in.
          linked_at ids new up are k l k_in l_in ∙ members k l
          ∙ ap₂ (λ s t. s && not t) (sym (linked_at ids rows up was k l k_in l_in))
          (joins_indexes ids up i j i_in j_in k l k_in l_in))
          (λ x y none. no_link ids new are x y none
          ∙ sym (ap₂ (λ s t. s && not t) (no_link ids rows was x y none) (no_join x y none)))

      pub links_fewer : links_of ids new ≡ set.remove (set.remove (links_of ids rows) (a, b)) (b, a)
      links_fewer =
          set.same_set pair_total pair_antisymmetric _ _
          (λ q. linked_fewer q.0 q.1 ∙ sym (has_fewer (links_of ids rows) a b q))

-- ---- rows that have the links of one index no more

module _ (ids : List ℕ) (up : IsStrictlyIncreasing ids) (i : ℕ) (i_in : i < length ids) (rows new : List (List ℕ))
    (was : AreRows (length ids) rows) (are : AreRows (length ids) new)
    (members : (x y : ℕ) → near_has new x y ≡ (near_has rows x y && (not (eqb x i) && not (eqb y i)))) where
  -- an index has the id at i where it is i
  same_index : (k : ℕ) → k < length ids → eqb k i ≡ eqb (get_or ids k 0) (get_or ids i 0)
  same_index k k_in =
      same_tests _ _
      (λ e. eq-eqb (get_or ids k 0) (get_or ids i 0) (ap (λ m. get_or ids m 0) (eqb-true k i e)))
      (λ e. eq-eqb k i (index_once ids up k i k_in i_in (eqb-true (get_or ids k 0) (get_or ids i 0) e)))

  linked_apart : (x y : ℕ) → are_linked (graph_of ids ids new) x y
      ≡ (are_linked (graph_of ids ids rows) x y && (not (eqb x (get_or ids i 0)) && not (eqb y (get_or ids i 0))))
  linked_apart =
      by_indexes ids (are_linked (graph_of ids ids new))
      (λ x y. are_linked (graph_of ids ids rows) x y
      && (not (eqb x (get_or ids i 0)) && not (eqb y (get_or ids i 0))))
      (λ k l k_in l_in.
      linked_at ids new up are k l k_in l_in ∙ members k l
      ∙ ap₂ (λ s t. s && t) (sym (linked_at ids rows up was k l k_in l_in))
      (ap₂ (λ s t. not s && not t) (same_index k k_in) (same_index l l_in)))
      (λ x y none. no_link ids new are x y none
      ∙ sym (ap (λ s. s && (not (eqb x (get_or ids i 0)) && not (eqb y (get_or ids i 0))))
      (no_link ids rows was x y none)))

  -- the links are those neither end of which is the id
  pub links_apart : links_of ids new
      ≡ set.retain (links_of ids rows) (λ l. not (eqb l.0 (get_or ids i 0)) && not (eqb l.1 (get_or ids i 0)))
  links_apart =
      set.same_set pair_total pair_antisymmetric _ _
      (λ q. linked_apart q.0 q.1
      ∙ sym (set.contains-retain (links_of ids rows)
      (λ l. not (eqb l.0 (get_or ids i 0)) && not (eqb l.1 (get_or ids i 0))) q
      (λ x tied.
      ap (λ (p : ℕ × ℕ). not (eqb p.0 (get_or ids i 0)) && not (eqb p.1 (get_or ids i 0)))
      (sym (pair_antisymmetric q x tied)))))

-- what a test was before it was made false at some places where it was true
given_back : (p t : Bool) → (t ≡ true → p ≡ true) → p ≡ ((p && not t) || t)
given_back true true gives = refl
given_back true false gives = refl
given_back false true gives = gives refl
given_back false false gives = refl

-- the pairs of rows that got a link that they had not
module _ (ids : List ℕ) (as_ids : AreIds ids) (i j : ℕ) (i_in : i < length ids) (j_in : j < length ids)
    (rows new : List (List ℕ)) (was : AreRows (length ids) rows) (are : AreRows (length ids) new)
    (different : get_or ids i 0 ≢ get_or ids j 0)
    (members : (x y : ℕ) → near_has new x y ≡ (near_has rows x y || joins x y (i, j)))
    (absent : are_linked (graph_of ids ids rows) (get_or ids i 0) (get_or ids j 0) ≡ false) where
  pub two_more : set.len (links_of ids new) ≡ set.len (links_of ids rows) + 2
  two_more =
      ap set.len (links_more ids as_ids.ascending i j i_in j_in rows new was are members)
      ∙ len_both (links_of ids rows) (get_or ids i 0) (get_or ids j 0) different absent
      ((tied_graph ids ids rows (all_tied ids rows as_ids was)).symmetric (get_or ids j 0) (get_or ids i 0) ∙ absent)

-- ---- rows from which one link was taken that was there

module _ (ids : List ℕ) (as_ids : AreIds ids) (rows new : List (List ℕ)) (was : AreRows (length ids) rows) (i j : ℕ)
    (i_in : i < length ids) (j_in : j < length ids) (taken : Unlinks (length ids) rows i j new)
    (near : near_has rows i j ≡ true) where
  near_joined : (x y : ℕ) → joins x y (i, j) ≡ true → near_has rows x y ≡ true
  near_joined x y e =
      ⊎_elim
      (λ (p : (i ≡ x) × (j ≡ y)). subst (λ v. near_has rows v y ≡ true) p.0
      (subst (λ w. near_has rows i w ≡ true) p.1 near))
      (λ (p : (i ≡ y) × (j ≡ x)). subst (λ v. near_has rows v y ≡ true) p.1
      (subst (λ w. near_has rows j w ≡ true) p.0 (was.symmetric j i ∙ near)))
      (joins_ends x y (i, j) e)

  different : get_or ids i 0 ≢ get_or ids j 0
  different e =
      let same : i ≡ j = index_once ids as_ids.ascending i j i_in j_in e in
      both_ways (near_has rows j j) (was.irreflexive j) (subst (λ k. near_has rows k j ≡ true) same near)

  absent : are_linked (graph_of ids ids new) (get_or ids i 0) (get_or ids j 0) ≡ false
  absent =
      linked_at ids new as_ids.ascending taken.as_rows i j i_in j_in ∙ taken.members i j
      ∙ ap₂ (λ s t. s && not t) near (joins_own i j)

  -- the pairs before are those now and two more
  pub two_fewer : set.len (links_of ids rows) ≡ set.len (links_of ids new) + 2
  two_fewer =
      two_more ids as_ids i j i_in j_in new rows taken.as_rows was different
      (λ x y. given_back (near_has rows x y) (joins x y (i, j)) (near_joined x y)
      ∙ ap (λ p. p || joins x y (i, j)) (sym (taken.members x y)))
      absent

-- ---- a topology with one link more

-- what a topology of these rows is, beside one of those before
pub record Made (ids nodes : List ℕ) (rows : List (List ℕ)) (leaders : List ℕ) (count : ℕ) (g : Graph) : Type 0 where
  pub parts : AreParts ids nodes rows leaders count
  pub graph : graph_of ids nodes rows ≡ g

module _ (ids nodes : List ℕ) (rows new : List (List ℕ)) (old_leaders : List ℕ) (count : ℕ)
    (old : AreParts ids nodes rows old_leaders count) (i j : ℕ) (i_in : i < length ids) (j_in : j < length ids)
    (leaders : List ℕ) (lead : AreLeadersOf (length ids) new leaders) where
  abbrev as_ids : AreIds ids
  as_ids = old.tied.as_ids

  abbrev was : AreRows (length ids) rows
  was = old.tied.as_rows

  pub linked_parts : has nodes (get_or ids i 0) ≡ true → has nodes (get_or ids j 0) ≡ true
      → (fresh : Bool) → Links (length ids) rows i j fresh new → get_or ids i 0 ≢ get_or ids j 0
      → are_linked (graph_of ids nodes rows) (get_or ids i 0) (get_or ids j 0) ≡ false →
      Made ids nodes new leaders (count + 1) (with_link (graph_of ids nodes rows) (get_or ids i 0) (get_or ids j 0))
  linked_parts i_up j_up fresh put different absent =
      let longer = two_more ids as_ids i j i_in j_in rows new was put.as_rows different put.members absent in
      record {
        parts = record {
          tied = record {
            as_ids = as_ids;
            as_nodes = old.tied.as_nodes;
            as_rows = put.as_rows;
            ends = λ x y e.
                ⊎_elim (old.tied.ends x y)
                (λ new_one.
                ⊎_elim (λ (p : (i ≡ x) × (j ≡ y)). subst (λ k. has nodes (get_or ids k 0) ≡ true) p.0 i_up)
                (λ (p : (i ≡ y) × (j ≡ x)). subst (λ k. has nodes (get_or ids k 0) ≡ true) p.1 j_up)
                (joins_ends x y (i, j) new_one))
                (or_cases (near_has rows x y) (joins x y (i, j)) (sym (put.members x y) ∙ e));
          };
          as_leaders = lead;
          counted = omega (arith, longer, old.counted);
        };
        graph = ap (λ s. record { ids = ids; nodes = nodes; links = s })
            (links_more ids as_ids.ascending i j i_in j_in rows new was put.as_rows put.members);
      }

  -- ---- and with one link less

  pub unlinked_parts : (taken : Unlinks (length ids) rows i j new)
      → are_linked (graph_of ids nodes rows) (get_or ids i 0) (get_or ids j 0) ≡ true → (fewer : ℕ)
      → fewer + 1 ≡ count
      → Made ids nodes new leaders fewer (without_link (graph_of ids nodes rows) (get_or ids i 0) (get_or ids j 0))
  unlinked_parts taken there fewer one_less =
      let near : near_has rows i j ≡ true = sym (linked_at ids rows as_ids.ascending was i j i_in j_in) ∙ there in
      record {
        parts = record {
          tied = record {
            as_ids = as_ids;
            as_nodes = old.tied.as_nodes;
            as_rows = taken.as_rows;
            ends = λ x y e.
                old.tied.ends x y
                (and_parts (near_has rows x y) (not (joins x y (i, j))) (sym (taken.members x y) ∙ e)).0;
          };
          as_leaders = lead;
          counted = omega (arith, two_fewer ids as_ids rows new was i j i_in j_in taken near, old.counted, one_less);
        };
        graph = ap (λ s. record { ids = ids; nodes = nodes; links = s })
            (links_fewer ids as_ids.ascending i j i_in j_in rows new was taken.as_rows taken.members);
      }

-- ---- a topology with one node less

module _ (ids nodes : List ℕ) (rows new : List (List ℕ)) (old_leaders : List ℕ) (count : ℕ)
    (old : AreParts ids nodes rows old_leaders count) (i : ℕ) (i_in : i < length ids)
    (leaders : List ℕ) (lead : AreLeadersOf (length ids) new leaders) (taken : Isolates (length ids) rows i new) where
  -- two pairs of the graph for each index of the row
  pub row_counted : 2 * length (row_at rows i) ≤ 2 * count
  row_counted = omega (arith, taken.fewer ids old.tied.as_ids refl, old.counted)

  isolated_end : (x y : ℕ) → near_has new x y ≡ true
      → has (filter (λ n. not (eqb n (get_or ids i 0))) nodes) (get_or ids x 0) ≡ true
  isolated_end x y e =
      let parts =
      and_parts (near_has rows x y) (not (eqb x i) && not (eqb y i)) (sym (taken.members x y) ∙ e) in
      let other : not (eqb x i) ≡ true = (and_parts (not (eqb x i)) (not (eqb y i)) parts.1).0 in
      let x_in : x < length ids = row_of_id (length ids) rows old.tied.as_rows x y parts.0 in
      has-filter (λ n. not (eqb n (get_or ids i 0))) nodes (get_or ids x 0)
      ∙ and_from (not (eqb (get_or ids x 0) (get_or ids i 0))) (has nodes (get_or ids x 0))
      (ap not (sym (same_index ids old.tied.as_ids.ascending i i_in rows new old.tied.as_rows taken.as_rows taken.members
      x x_in)) ∙ other)
      (old.tied.ends x y parts.0)

  pub isolated_parts : (fewer : ℕ) → fewer + length (row_at rows i) ≡ count
      → Made ids (filter (λ n. not (eqb n (get_or ids i 0))) nodes) new leaders fewer
      (without_node (graph_of ids nodes rows) (get_or ids i 0))
  isolated_parts fewer so_many_less = record {
    parts = record {
      tied = record {
        as_ids = old.tied.as_ids;
        as_nodes = nodes_without ids nodes old.tied.as_nodes (get_or ids i 0);
        as_rows = taken.as_rows;
        ends = isolated_end;
      };
      as_leaders = lead;
      counted = omega (arith, taken.fewer ids old.tied.as_ids refl, old.counted, so_many_less);
    };
    graph = ap (λ s. record { ids = ids; nodes = filter (λ n. not (eqb n (get_or ids i 0))) nodes; links = s })
        (links_apart ids old.tied.as_ids.ascending i i_in rows new old.tied.as_rows taken.as_rows taken.members);
  }

-- ---- a topology with one node more

pub with_node_made : (members : Membership) (rows : List (List ℕ)) (leaders : List ℕ) (count : ℕ)
    → AreParts members.ids members.nodes rows leaders count → (x : ℕ) (made : Membership) → made ≡ members_with members x
    → (copy : List (List ℕ)) → copy ≡ rows
    → Made made.ids made.nodes copy leaders count (with_node (graph_of members.ids members.nodes rows) x)
with_node_made members rows leaders count old x made made_is copy copy_is =
    subst (λ (r : Membership). Made r.ids r.nodes copy leaders count (with_node (graph_of members.ids members.nodes rows) x))
    (sym made_is)
    (subst (λ rs. Made members.ids more rs leaders count (with_node (graph_of members.ids members.nodes rows) x)) (sym copy_is)
    (record {
      parts = record {
        tied = record {
          as_ids = old.tied.as_ids;
          as_nodes = nodes_among members.ids old.tied.as_ids.ascending (λ j. has members.nodes j || eqb j x);
          as_rows = old.tied.as_rows;
          ends = λ i j e.
              let i_in : i < length members.ids = row_of_id (length members.ids) rows old.tied.as_rows i j e in
              let id : ℕ = get_or members.ids i 0 in
              has-filter (λ n. has members.nodes n || eqb n x) members.ids id
              ∙ and_from (has members.nodes id || eqb id x) (has members.ids id)
              (or_left (has members.nodes id) (eqb id x) (old.tied.ends i j e)) (member_at members.ids i i_in);
        };
        as_leaders = old.as_leaders;
        counted = old.counted;
      };
      graph = refl;
    }))
  where
    more : List ℕ
    more = filter (λ j. has members.nodes j || eqb j x) members.ids
