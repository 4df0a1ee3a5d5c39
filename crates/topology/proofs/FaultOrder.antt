-- Which faults two lists don't have, in the order in which faults are named.
use Rattle.std.proofs.Common.{◌≡◌, ◌≢◌, ℕ, ◌+◌, ◌≤◌, ◌⊎◌, true, List, [], length, get_or, All, AllPairs, Contains, sym}
use Rattle.std.proofs.Common.{refl, ap, ap₂, subst, ◌∙◌, arith, inl, inr, ⊎_elim}
use Rattle.std.specs.List.{list_any}
use Rattle.std.proofs.lemmas.List.{get_or_default, nil_from_length}
use Rattle.std.proofs.lemmas.Bool.{cases_lt}
use Rattle.std.proofs.lemmas.List.Elements.{All-contains, All-weaker, Contains-get_or}
use Rattle.std.proofs.lemmas.List.Folds.{Any-from_list_any, list_any-from_Any}
use Rattle.topology.specs.Building.{AreSorted, AreApart, AreJoined, joins}
use Rattle.topology.specs.Faults.{IsFirst, IsFirstRepeat, IsGraphOf, ends_of, ordered_links, HasFault, rank_of}
use Rattle.topology.specs.Faults.{IsFirstFault}
use Rattle.topology.specs.Graph.{AreLinked, has}
use Rattle.topology.specs.Id.{IsId}
use Rattle.topology.specs.Rows.{near_has, graph_of, AreIds}
use Rattle.topology.specs.declared.fault.TopoFault.{TopoFault}
use Rattle.topology.specs.declared.fault.TopoFault.TheVariants.{NoNodes, TooManyNodes, BadId, TwiceNode, TooManyLinks}
use Rattle.topology.specs.declared.fault.TopoFault.TheVariants.{StrangeNode, SelfLink, TwiceLink}
use Rattle.topology.specs.declared.fault.TopoFault.TheVariants.{NoMemory, NoSuchLink, LinkIsThere, NodeIsUp}
use Rattle.topology.specs.declared.fault.TheConstants.{MAX_NODES, MAX_LINKS}
use Rattle.topology.proofs.Ascending.{contains_from_test, test_from_contains, index_of_member}
use Rattle.topology.proofs.FirstItems.{no_first, no_first_repeat, first_weaker, ends_known}
use Rattle.topology.proofs.Inserting.{joins_ends, joins_own, joins_back}
use Rattle.topology.proofs.RowLemmas.{all_tied, linked_from, linked_to, tied_graph}

module _ (nodes : List ℕ) (links : List (ℕ × ℕ)) where
  -- the lists have none of the first k faults
  abbrev pub Clean : ℕ → Type 0
  Clean k = (e : TopoFault) → rank_of e ≤ k → HasFault nodes links e → ⊥

  pub first_fault : (f : TopoFault) (k : ℕ) → rank_of f ≡ k + 1 → Clean k → HasFault nodes links f
      → IsFirstFault nodes links f
  first_fault f k rank clean here = record { fault = here; first = λ e less. clean e (omega (arith, less, rank)) }

  pub clean_none : Clean 0
  clean_none NoNodes le x = absurd (omega arith)
  clean_none e le x = absurd (omega arith)

  pub clean_some : (nodes ≡ [] → ⊥) → Clean 1
  clean_some some NoNodes le x = some x
  clean_some some e le x = absurd (omega arith)

  pub clean_few : Clean 1 → length nodes ≤ MAX_NODES → Clean 2
  clean_few before few TooManyNodes le x = absurd (omega arith)
  clean_few before few e le x = before e (omega arith) x

  pub clean_ids : Clean 2 → All IsId nodes → Clean 3
  clean_ids before valid (BadId n) le x =
      no_first (λ i. IsId i → ⊥) nodes n (All-weaker IsId (λ i. (IsId i → ⊥) → ⊥) (λ i is not. not is) nodes valid) x
  clean_ids before valid e le x = before e (omega arith) x

  pub clean_distinct : Clean 3 → AllPairs (λ x y. x ≢ y) nodes → Clean 4
  clean_distinct before apart (TwiceNode n) le x = no_first_repeat nodes apart n x
  clean_distinct before apart e le x = before e (omega arith) x

  pub clean_links : Clean 4 → length links ≤ MAX_LINKS → Clean 5
  clean_links before few TooManyLinks le x = absurd (omega arith)
  clean_links before few e le x = before e (omega arith) x

  pub clean_known : Clean 5 → All (Contains nodes) (ends_of links) → Clean 6
  clean_known before known (StrangeNode n) le x =
      no_first (λ i. Contains nodes i → ⊥) (ends_of links) n
      (All-weaker (Contains nodes) (λ i. (Contains nodes i → ⊥) → ⊥) (λ i is not. not is) (ends_of links) known) x
  clean_known before known e le x = before e (omega arith) x

  pub clean_apart : Clean 6 → All (λ l. l.0 ≢ l.1) links → Clean 7
  clean_apart before apart (SelfLink n) le x = no_first (λ (l : ℕ × ℕ). l.0 ≡ l.1) links (n, n) apart x
  clean_apart before apart e le x = before e (omega arith) x

  pub clean_once : Clean 7 → AllPairs (λ l m. l ≢ m) (ordered_links links) → Clean 8
  clean_once before once (TwiceLink a b) le x = no_first_repeat (ordered_links links) once (a, b) x
  clean_once before once e le x = before e (omega arith) x

  pub clean_all : Clean 8 → (f : TopoFault) → HasFault nodes links f → ⊥
  clean_all before NoMemory x = x
  clean_all before NoSuchLink x = x
  clean_all before LinkIsThere x = x
  clean_all before NodeIsUp x = x
  clean_all before e x = before e (omega arith) x

-- ---- what checked nodes tell

module _ (nodes : List ℕ) (some : nodes ≡ [] → ⊥) (few : length nodes ≤ MAX_NODES) (valid : All IsId nodes) where
  pub ids_from_nodes : (ids : List ℕ) → AreSorted nodes ids → AreIds ids
  ids_from_nodes ids sorted = record {
    some = ⊎_elim (λ pos. pos) (λ zero. absurd (some (nil_from_length nodes (omega (arith, sorted.count)))))
        (cases_lt 0 (length ids));
    small = omega (arith, sorted.count);
    valid = λ k d within.
        All-contains IsId nodes (get_or ids k d) valid
        (contains_from_test nodes (get_or ids k d)
        (sym (sorted.members (get_or ids k d))
        ∙ test_from_contains ids (get_or ids k d) (Contains-get_or ids k d within)));
    ascending = sorted.ascending;
  }

  pub twice_node_first : (links : List (ℕ × ℕ)) (n : ℕ) → IsFirstRepeat nodes n → IsFirstFault nodes links (TwiceNode n)
  twice_node_first links n repeat =
      first_fault nodes links (TwiceNode n) 3 refl
      (clean_ids nodes links (clean_few nodes links (clean_some nodes links some) few) valid) repeat

-- ---- what the ids in order tell

module _ (nodes ids : List ℕ) (as_ids : AreIds ids) (sorted : AreSorted nodes ids) where
  pub node_from_id : (x : ℕ) → has ids x ≡ true → Contains nodes x
  node_from_id x e = contains_from_test nodes x (sym (sorted.members x) ∙ e)

  pub id_from_node : (x : ℕ) → Contains nodes x → has ids x ≡ true
  id_from_node x at = sorted.members x ∙ test_from_contains nodes x at

  pub clean_nodes : (links : List (ℕ × ℕ)) → Clean nodes links 4
  clean_nodes links =
      clean_distinct nodes links
      (clean_ids nodes links
      (clean_few nodes links
      (clean_some nodes links (λ e. absurd (omega (arith, as_ids.some, sorted.count, ap length e))))
      (omega (arith, as_ids.small, sorted.count)))
      (λ k d within. All-contains IsId ids (get_or nodes k d) as_ids.valid
      (contains_from_test ids (get_or nodes k d)
      (id_from_node (get_or nodes k d) (Contains-get_or nodes k d within)))))
      sorted.distinct

  module _ (links : List (ℕ × ℕ)) (few : length links ≤ MAX_LINKS) where
    pub strange_first : (n : ℕ) → IsFirst (λ x. has ids x ≡ true → ⊥) (ends_of links) n
        → IsFirstFault nodes links (StrangeNode n)
    strange_first n first =
        first_fault nodes links (StrangeNode n) 5 refl (clean_links nodes links (clean_nodes links) few)
        (first_weaker (λ x. has ids x ≡ true → ⊥) (λ x. Contains nodes x → ⊥) (λ x not at. not (id_from_node x at))
        (λ x not e. not (node_from_id x e)) (ends_of links) n first)

    module _ (known : All (λ x. has ids x ≡ true) (ends_of links)) where
      clean_ends : Clean nodes links 6
      clean_ends =
          clean_known nodes links (clean_links nodes links (clean_nodes links) few)
          (All-weaker (λ x. has ids x ≡ true) (Contains nodes) node_from_id (ends_of links) known)

      pub self_first : (n : ℕ) → IsFirst (λ (l : ℕ × ℕ). l.0 ≡ l.1) links (n, n) → IsFirstFault nodes links (SelfLink n)
      self_first n first = first_fault nodes links (SelfLink n) 6 refl clean_ends first

      module _ (apart : All (λ (l : ℕ × ℕ). l.0 ≢ l.1) links) where
        pub twice_first : (p : ℕ × ℕ) → IsFirstRepeat (ordered_links links) p
            → IsFirstFault nodes links (TwiceLink p.0 p.1)
        twice_first p first =
            first_fault nodes links (TwiceLink p.0 p.1) 7 refl (clean_apart nodes links clean_ends apart) first

        pub clean_lists : AllPairs (λ l m. l ≢ m) (ordered_links links) → Clean nodes links 8
        clean_lists once = clean_once nodes links (clean_apart nodes links clean_ends apart) once

-- ---- the graph of the lists

pub link_from_join : (a b : ℕ) (links : List (ℕ × ℕ)) → list_any (joins a b) links ≡ true
    → Contains links (a, b) ⊎ Contains links (b, a)
link_from_join a b links e =
    let at = Any-from_list_any (joins a b) links e in
    let l : ℕ × ℕ = at.1 in
    ⊎_elim
    (λ (p : (l.0 ≡ a) × (l.1 ≡ b)). inl (subst (Contains links) (ap₂ (λ x y. (x, y)) p.0 p.1) (at.0, at.2, at.3)))
    (λ (p : (l.0 ≡ b) × (l.1 ≡ a)). inr (subst (Contains links) (ap₂ (λ x y. (x, y)) p.0 p.1) (at.0, at.2, at.3)))
    (joins_ends a b l at.4)

pub join_from_link : (a b : ℕ) (links : List (ℕ × ℕ)) → Contains links (a, b) ⊎ Contains links (b, a)
    → list_any (joins a b) links ≡ true
join_from_link a b links at =
    ⊎_elim
    (λ here. list_any-from_Any (joins a b) links (here.0, (a, b), here.1, here.2, joins_own a b))
    (λ back. list_any-from_Any (joins a b) links
    (back.0, (b, a), back.1, back.2, joins_back a b (b, a) ∙ joins_own b a))
    at

module _ (nodes ids : List ℕ) (as_ids : AreIds ids) (sorted : AreSorted nodes ids) (links : List (ℕ × ℕ))
    (apart : AreApart ids links) (rows : List (List ℕ)) (joined : AreJoined ids links rows) where
  ends_are_ids : (a b : ℕ) → Contains links (a, b) → (has ids a ≡ true) × (has ids b ≡ true)
  ends_are_ids a b at =
      let l : ℕ × ℕ = get_or links at.0 (0, 0) in
      let both = ends_known links at.0 at.1 (λ x. has ids x ≡ true) apart.known in
      let same : l ≡ (a, b) = get_or_default links at.0 (0, 0) (a, b) at.1 ∙ at.2 in
      (subst (λ (p : ℕ × ℕ). has ids p.0 ≡ true) same both.0, subst (λ (p : ℕ × ℕ). has ids p.1 ≡ true) same both.1)

  linked_by : (a b : ℕ) → has ids a ≡ true → has ids b ≡ true → list_any (joins a b) links ≡ true
      → AreLinked (graph_of ids ids rows) a b
  linked_by a b a_in b_in e =
      let i = index_of_member ids a a_in in
      let j = index_of_member ids b b_in in
      let near : near_has rows i.0 j.0 ≡ true =
      joined.members i.0 j.0 i.1 j.1 ∙ ap₂ (λ x y. list_any (joins x y) links) i.2 j.2 ∙ e in
      subst (λ x. AreLinked (graph_of ids ids rows) x b) i.2
      (subst (λ y. AreLinked (graph_of ids ids rows) (get_or ids i.0 0) y) j.2 (linked_to ids rows i.0 j.0 i.1 near))

  pub graph_of_lists : IsGraphOf nodes links (graph_of ids ids rows)
  graph_of_lists = record {
    as_graph = tied_graph ids ids rows (all_tied ids rows as_ids joined.as_rows);
    up = refl;
    same_nodes =
        λ x. (
          λ at. node_from_id nodes ids as_ids sorted x (test_from_contains ids x at),
          λ at. contains_from_test ids x
              (id_from_node nodes ids as_ids sorted x at),
        );
    same_links = λ a b. (
      λ e.
          let l = linked_from ids rows a b e in
          let j_in = joined.as_rows.within l.i l.j l.near in
          link_from_join a b links
          (sym (ap₂ (λ x y. list_any (joins x y) links) l.first l.second)
          ∙ sym (joined.members l.i l.j l.within j_in) ∙ l.near),
      λ at.
          ⊎_elim
          (λ here. let p = ends_are_ids a b here in linked_by a b p.0 p.1 (join_from_link a b links (inl here)))
          (λ back. let p = ends_are_ids b a back in linked_by a b p.1 p.0 (join_from_link a b links (inr back)))
          at,
    );
  }
