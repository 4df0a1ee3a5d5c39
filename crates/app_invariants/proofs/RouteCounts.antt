-- The routes of a component, by the graph.
use Rattle.std.proofs.Common.{◌≡◌, ℕ, ◌<◌, ◌≤◌, true, false, not, ◌&&◌, ◌||◌, ◌==◌, List, [], ◌∷◌, Option}
use Rattle.std.proofs.Common.{Result, Ok, Err, IfNone, IfSome, length, map, get_or, Contains, refl, sym, ap, ap₂, ◌∙◌, subst, arith}
use Rattle.std.proofs.Common.{All, ◌+◌, ⊎_elim}
use Rattle.std.specs.List.{count_by, sum_by}
use Rattle.std.specs.List.Sorted.{IsStrictlyIncreasing}
use Rattle.std.specs.Cmp.{both_ways as same_tests}
use Rattle.std.specs.Result.{result_ok}
use Rattle.std.proofs.lemmas.Bool.{cases_Bool, cases_lt}
use Rattle.std.proofs.lemmas.List.{get_or-map, get_or_default, length-map}
use Rattle.topology.specs.Components.{component}
use Rattle.topology.specs.Graph.{Graph, IsGraph, IsNode, IsReached, IsWalk, are_linked}
use Rattle.topology.proofs.Ascending.{Finds, index_once, rises_weakly}
use Rattle.topology.proofs.Components.{component_is, reached_on}
use Rattle.topology.proofs.Walks.{linked_back, walk_of_other}
use Rattle.app_interface.proofs.FromTextLaws.{ascends_tells}
use Rattle.app_routes.specs.Entries.{IsAscending}
use Rattle.app_routes.specs.declared.entry.Entry.{Entry}
use Rattle.app_token.specs.LawsOfSums.{same_sum}
use Rattle.app_invariants.specs.LawsOfWrongEntries.{test_of_walk, walk_of_test}
use Rattle.app_invariants.specs.Prepared.{AreMembers}
use Rattle.app_invariants.specs.WrongEntries.{has_nearer, is_ascending, is_route, is_walked, wrong_at, wrong_entries}
use Rattle.app_invariants.proofs.Filters.{same_count}

-- ---- in a component

module _ (g : Graph) (i : ℕ) (are : IsGraph g) (node : IsNode g i) where
  abbrev part : Graph
  part = component g i

  -- a walk from the component stays in it
  walk_within : (a b : ℕ) (cs : List ℕ) → IsReached g i a → IsWalk g a cs b → IsWalk part a cs b
  walk_within a b [] r w = w
  walk_within a b (c ∷ cs) r w = (
    ((component_is g i are node).same_links a c).1 (r, w.0),
    walk_within c b cs (reached_on g i a c r (c ∷ [], (w.0, refl))) w.1,
  )

  walked_in_part : (a b links : ℕ) → IsReached g i a → is_walked part a b links ≡ is_walked g a b links
  walked_in_part a b links r =
      let is = component_is g i are node in
      same_tests _ _
      (λ t.
      let w = walk_of_test part a b links t in
      subst (λ n. is_walked g a b n ≡ true) w.2
      (test_of_walk g are a b w.0 (walk_of_other part g (λ x y e. ((is.same_links x y).0 e).1) a b w.0 w.1)))
      (λ t.
      let w = walk_of_test g a b links t in
      subst (λ n. is_walked part a b n ≡ true) w.2
      (test_of_walk part is.as_graph a b w.0 (walk_within a b w.0 r w.1)))

  module _ (v : ℕ → List Entry) where
    route_in_part : (a : ℕ) (e : Entry) → IsReached g i a → is_route part v a e ≡ is_route g v a e
    route_in_part a e r =
        let is = component_is g i are node in
        let linked : are_linked part a e.next ≡ are_linked g a e.next =
        same_tests _ _ (λ t. ((is.same_links a e.next).0 t).1) (λ t. (is.same_links a e.next).1 (r, t)) in
        ap₂ (λ walked near. walked && (e.hops == 0 || (near && has_nearer (v e.next) e.destination e.hops)))
        (walked_in_part a e.destination e.hops r) linked

    wrong_in_part : (a : ℕ) → IsReached g i a → wrong_at part v a ≡ wrong_at g v a
    wrong_in_part a r =
        same_count _ _ (v a) (λ e. ap (λ b. not (is_ascending (v a) && b)) (route_in_part a e r))

    pub wrong_of_part : sum_by (wrong_at g v) (component g i).nodes ≡ wrong_entries (component g i) v
    wrong_of_part =
        same_sum part (wrong_at part v) (wrong_at g v)
        (λ a at. sym (wrong_in_part a (((component_is g i are node).same_nodes a).0 at)))

-- ---- of a node whose entries ascend

pub wrong_ascending : (g : Graph) (v : ℕ → List Entry) (i : ℕ) → IsAscending (v i)
    → count_by (λ e. not (is_route g v i e)) (v i) ≡ wrong_at g v i
wrong_ascending g v i up =
    let is : is_ascending (v i) ≡ true = (ascends_tells (map (λ e. e.destination) (v i))).1 up in
    same_count _ _ (v i) (λ e. ap (λ b. not (b && is_route g v i e)) (sym is))

-- ---- indexes of a component

module _ (g : Graph) (are : IsGraph g) (members : List ℕ) (within : All (λ k. k < length g.ids) members) where
  abbrev ids : List ℕ
  ids = map (λ k. get_or g.ids k 0) members

  long : length ids ≡ length members
  long = length-map members (λ k. get_or g.ids k 0)

  id_at : (p x : ℕ) → p < length members → get_or ids p x ≡ get_or g.ids (get_or members p 0) 0
  id_at p x lt = get_or-map (λ k. get_or g.ids k 0) members p 0 x lt

  pub rising_members : IsStrictlyIncreasing ids → IsStrictlyIncreasing members
  rising_members up p lt =
      let low : p < length members = omega (arith, lt) in
      let less : get_or g.ids (get_or members p 0) 0 < get_or g.ids (get_or members (p + 1) 0) 0 =
      omega (arith, up p (omega (arith, lt, long)), id_at p 0 low, id_at (p + 1) 0 lt) in
      ⊎_elim
      (λ rises. rises)
      (λ falls. absurd (omega (
        arith,
        less,
        rises_weakly g.ids are.ascending (get_or members (p + 1) 0) (get_or members p 0) falls (within p 0 low),
      )))
      (cases_lt (get_or members p 0) (get_or members (p + 1) 0))

  -- an index of the list, by its identifier
  pub member_of_id : (k : ℕ) → k < length g.ids → Contains ids (get_or g.ids k 0) → Contains members k
  member_of_id k k_in at =
      let lt : at.0 < length members = omega (arith, at.1, long) in
      let same : get_or members at.0 0 ≡ k =
      index_once g.ids are.ascending (get_or members at.0 0) k (within at.0 0 lt) k_in
      (sym (id_at at.0 (get_or g.ids k 0) lt) ∙ at.2) in
      (at.0, lt, get_or_default members at.0 k 0 lt ∙ same)

  pub id_of_member : (k : ℕ) → Contains members k → Contains ids (get_or g.ids k 0)
  id_of_member k at = (
    at.0,
    omega (arith, at.1, long),
    id_at at.0 (get_or g.ids k 0) at.1 ∙ ap (λ n. get_or g.ids n 0) (get_or_default members at.0 0 k at.1 ∙ at.2),
  )

  -- what a search for an index finds
  pub place_found : (index id : ℕ) → get_or g.ids index 0 ≡ id → (up : IsStrictlyIncreasing members) (r : Result ℕ ℕ)
      → Finds members index up r → (o : Option ℕ) → o ≡ result_ok r
      → IfSome o (λ p. (p < length members) × (get_or g.ids (get_or members p 0) 0 ≡ id))
  place_found index id is up (Ok p) found o e =
      subst (λ q. IfSome q (λ p. (p < length members) × (get_or g.ids (get_or members p 0) 0 ≡ id))) (sym e)
      (found.0, ap (λ k. get_or g.ids k 0) found.1 ∙ is)
  place_found index id is up (Err p) found o e =
      subst (λ q. IfSome q (λ p. (p < length members) × (get_or g.ids (get_or members p 0) 0 ≡ id))) (sym e) tt

  pub place_none : (index id : ℕ) → index < length g.ids → get_or g.ids index 0 ≡ id → (up : IsStrictlyIncreasing members)
      (r : Result ℕ ℕ) → Finds members index up r → (o : Option ℕ) → o ≡ result_ok r
      → IfNone o ((k : ℕ) → k < length g.ids → get_or g.ids k 0 ≡ id → Contains members k → ⊥)
  place_none index id index_in is up (Ok p) found o e =
      subst (λ q. IfNone q ((k : ℕ) → k < length g.ids → get_or g.ids k 0 ≡ id → Contains members k → ⊥)) (sym e) tt
  place_none index id index_in is up (Err p) found o e =
      subst (λ q. IfNone q ((k : ℕ) → k < length g.ids → get_or g.ids k 0 ≡ id → Contains members k → ⊥)) (sym e)
      (λ k k_in same at.
      let here : k ≡ index = index_once g.ids are.ascending k index k_in index_in (same ∙ sym is) in
      let there : get_or members at.0 0 ≡ index = get_or_default members at.0 0 k at.1 ∙ at.2 ∙ here in
      ⊎_elim
      (λ low. omega (arith, found.1 at.0 low, there))
      (λ high. omega (arith, found.2 at.0 high at.1, there))
      (cases_lt at.0 p))

-- ---- walks that the indexes don't lead out of

-- a walk from an identifier leads to one
end_of_walk : (g : Graph) → IsGraph g → (a b : ℕ) (cs : List ℕ) → Contains g.ids a → IsWalk g a cs b → Contains g.ids b
end_of_walk g are a b [] at w = subst (Contains g.ids) w at
end_of_walk g are a b (c ∷ cs) at w =
    end_of_walk g are c b cs (are.within c (are.ends c a (linked_back g are a c w.0))) w.1

-- no walk leads to what is none of the members
pub no_walk_out : (g : Graph) → IsGraph g → (members : List ℕ) →
    ((i k : ℕ) → Contains members i → k < length g.ids → IsReached g (get_or g.ids i 0) (get_or g.ids k 0) → Contains members k)
    → (index id links : ℕ) → index < length g.ids → Contains members index →
    ((k : ℕ) → k < length g.ids → get_or g.ids k 0 ≡ id → Contains members k → ⊥)
    → false ≡ is_walked g (get_or g.ids index 0) id links
no_walk_out g are members closed index id links index_in at none =
    ⊎_elim
    (λ t.
    let w = walk_of_test g (get_or g.ids index 0) id links t in
    let there =
    end_of_walk g are (get_or g.ids index 0) id w.0 (index, index_in, get_or_default g.ids index _ 0 index_in) w.1 in
    let same : get_or g.ids there.0 0 ≡ id = get_or_default g.ids there.0 0 id there.1 ∙ there.2 in
    absurd
    (none there.0 there.1 same
    (closed index there.0 at there.1 (w.0, subst (IsWalk g (get_or g.ids index 0) w.0) (sym same) w.1))))
    (λ f. sym f)
    (cases_Bool (is_walked g (get_or g.ids index 0) id links))

-- ---- the nodes of a component

pub part_members : (g : Graph) → IsGraph g → (i : ℕ) → IsNode g i → (members : List ℕ)
    → map (λ k. get_or g.ids k 0) members ≡ (component g i).nodes → All (λ k. k < length g.ids) members
    → length members ≤ length g.ids → AreMembers g members
part_members g are i node members nodes within few =
    let part = component_is g i are node in
    record {
      within = within;
      few = few;
      ascending = rising_members g are members within (subst IsStrictlyIncreasing (sym nodes) part.as_graph.rising);
      closed = λ j k at k_in there.
          let from : IsNode (component g i) (get_or g.ids j 0) =
          subst (λ xs. Contains xs (get_or g.ids j 0)) nodes (id_of_member g are members within j at) in
          let to : IsNode (component g i) (get_or g.ids k 0) =
          (part.same_nodes (get_or g.ids k 0)).1
          (reached_on g i (get_or g.ids j 0) (get_or g.ids k 0) ((part.same_nodes (get_or g.ids j 0)).0 from) there) in
          member_of_id g are members within k k_in (subst (λ xs. Contains xs (get_or g.ids k 0)) (sym nodes) to);
    }
