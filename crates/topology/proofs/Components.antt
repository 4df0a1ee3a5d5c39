-- The component of a node, and the leader of each.
use Rattle.std.proofs.Common.{◌≡◌, ◌↔◌, ℕ, ◌-◌, ◌<◌, ◌≤◌, true, ◌&&◌, List, [], ◌∷◌, ◌++◌, length}
use Rattle.std.proofs.Common.{Contains, filter, refl, sym, ap, subst, ◌∙◌, arith}
use Rattle.std.specs.List.Sorted.{IsStrictlyIncreasing}
use Rattle.std.specs.FinSet as set
use Rattle.std.specs.Cmp.{both_ways as same_tests}
use Rattle.std.proofs.lemmas.Bool.{and_from, and_parts}
use Rattle.std.proofs.lemmas.List.{get_or_default}
use Rattle.std.proofs.lemmas.List.Kept.{IsStrictlyIncreasing-filter}
use Rattle.topology.specs.Graph.{Graph, are_linked, AreLinked, IsConnected, IsGraph, IsLeader, IsNode}
use Rattle.topology.specs.Graph.{IsReached, IsWalk, greatest, has}
use Rattle.topology.specs.Components.{reaches, component, leader, IsComponent}
use Rattle.topology.proofs.Ascending.{rises_weakly}
use Rattle.topology.proofs.Membership.{has-Contains, Contains-has, has-filter}
use Rattle.topology.proofs.OneResult.{same_graph}
use Rattle.topology.proofs.Reaching.{test_from_walk, walk_from_test}
use Rattle.topology.proofs.RowLemmas.{pair_antisymmetric}
use Rattle.topology.proofs.Walks.{linked_back, reached_back, walk_on}

-- ---- what walks lead to

-- no link leads to the node itself
pub reached_itself : (g : Graph) (a : ℕ) → IsReached g a a
reached_itself g a = ([], refl)

-- one walk after another
pub reached_on : (g : Graph) (a b c : ℕ) → IsReached g a b → IsReached g b c → IsReached g a c
reached_on g a b c there more = (there.0 ++ more.0, walk_on g a b c there.0 more.0 there.1 more.1)

-- a walk from a node leads to a node
pub reached_node : (g : Graph) (a b : ℕ) → IsGraph g → IsNode g a → IsReached g a b → IsNode g b
reached_node g a b are a_in (cs, w) = end_of_walk a cs a_in w
  where
    end_of_walk : (a : ℕ) (cs : List ℕ) → IsNode g a → IsWalk g a cs b → IsNode g b
    end_of_walk a [] a_in w = subst (λ x. IsNode g x) w a_in
    end_of_walk a (c ∷ cs) a_in w = end_of_walk c cs (are.ends c a (linked_back g are a c w.0)) w.1

pub reaches_tests : (g : Graph) (a b : ℕ) → IsGraph g → IsNode g a → (reaches g a b ≡ true ↔ IsReached g a b)
unfolding reaches
reaches_tests g a b are a_in = (walk_from_test g a (length g.ids) b, test_from_walk g a are a_in b)

-- what the test tells of any two numbers
pub reached_from_test : (g : Graph) (a b : ℕ) → reaches g a b ≡ true → IsReached g a b
unfolding reaches
reached_from_test g a b e = walk_from_test g a (length g.ids) b e

-- ---- the greatest id

pub greatest_node : (g : Graph) → 0 < length g.nodes → IsNode g (greatest g)
greatest_node g some =
    let last : length g.nodes - 1 < length g.nodes = omega (arith, some) in
    (length g.nodes - 1, last, get_or_default g.nodes (length g.nodes - 1) _ 0 last)

-- no id of a node is above the greatest
pub at_most_greatest : (g : Graph) (i : ℕ) → IsGraph g → IsNode g i → i ≤ greatest g
at_most_greatest g i are (k, low, at) =
    omega (
      arith,
      rises_weakly g.nodes are.rising k (length g.nodes - 1) (omega (arith, low)) (omega (arith, low)),
      get_or_default g.nodes k 0 i low ∙ at,
    )

-- ---- the component of a node

pub component_nodes : (g : Graph) (i : ℕ) → (component g i).nodes ≡ filter (reaches g i) g.nodes
unfolding component
component_nodes g i = refl

-- its identifiers are those of the graph
pub component_same_ids : (g : Graph) (i : ℕ) → (component g i).ids ≡ g.ids
unfolding component
component_same_ids g i = refl

-- a node has one component
pub one_part : (g : Graph) (i : ℕ) (h k : Graph) → IsComponent g i h → IsComponent g i k → h ≡ k
one_part g i h k a b =
    same_graph h k a.as_graph b.as_graph (a.ids ∙ sym b.ids)
    (λ j at. (b.same_nodes j).1 ((a.same_nodes j).0 at)) (λ j at. (a.same_nodes j).1 ((b.same_nodes j).0 at))
    (λ x y at. (b.same_links x y).1 ((a.same_links x y).0 at))
    (λ x y at. (a.same_links x y).1 ((b.same_links x y).0 at))

module _ (g : Graph) (i : ℕ) (are : IsGraph g) (i_in : IsNode g i) where
  component_node : (j : ℕ) → IsNode (component g i) j → IsReached g i j
  unfolding component
  component_node j at =
      let kept : (reaches g i j && has g.nodes j) ≡ true =
      sym (has-filter (reaches g i) g.nodes j) ∙ has-Contains (filter (reaches g i) g.nodes) j at in
      (reaches_tests g i j are i_in).0 (and_parts (reaches g i j) (has g.nodes j) kept).0

  node_of_component : (j : ℕ) → IsReached g i j → IsNode (component g i) j
  unfolding component
  node_of_component j r =
      let kept : (reaches g i j && has g.nodes j) ≡ true =
      and_from (reaches g i j) (has g.nodes j) ((reaches_tests g i j are i_in).1 r)
      (has-Contains g.nodes j (reached_node g i j are i_in r)) in
      Contains-has (filter (reaches g i) g.nodes) j (has-filter (reaches g i) g.nodes j ∙ kept)

  component_links : (a b : ℕ) → are_linked (component g i) a b ≡ (are_linked g a b && reaches g i a)
  unfolding component
  component_links a b =
      set.contains-retain g.links (λ link. reaches g i link.0) (a, b)
      (λ x tied. ap (λ (p : ℕ × ℕ). reaches g i p.0) (sym (pair_antisymmetric (a, b) x tied)))

  component_link : (a b : ℕ) → AreLinked (component g i) a b → IsReached g i a × AreLinked g a b
  component_link a b e =
      let parts = and_parts (are_linked g a b) (reaches g i a) (sym (component_links a b) ∙ e) in
      ((reaches_tests g i a are i_in).0 parts.1, parts.0)

  link_of_component : (a b : ℕ) → IsReached g i a → AreLinked g a b → AreLinked (component g i) a b
  link_of_component a b r e =
      component_links a b
      ∙ and_from (are_linked g a b) (reaches g i a) e ((reaches_tests g i a are i_in).1 r)

  link_back : (a b : ℕ) → AreLinked (component g i) a b → AreLinked (component g i) b a
  link_back a b e =
      let parts = component_link a b e in
      link_of_component b a (reached_on g i a b parts.0 (b ∷ [], (parts.1, refl))) (linked_back g are a b parts.1)

  -- a walk from the component stays in it
  walk_within : (a b : ℕ) (cs : List ℕ) → IsReached g i a → IsWalk g a cs b → IsWalk (component g i) a cs b
  walk_within a b [] r w = w
  walk_within a b (c ∷ cs) r w =
      (link_of_component a c r w.0, walk_within c b cs (reached_on g i a c r (c ∷ [], (w.0, refl))) w.1)

  component_rises : IsStrictlyIncreasing (component g i).nodes
  component_rises =
      subst IsStrictlyIncreasing (sym (component_nodes g i))
      (IsStrictlyIncreasing-filter (reaches g i) g.nodes are.rising)

  component_graph : IsGraph (component g i)
  component_graph =
      let same_ids = component_same_ids g i in
      record {
        some = omega (arith, ap length same_ids, are.some);
        ascending = subst IsStrictlyIncreasing (sym same_ids) are.ascending;
        rising = component_rises;
        within = λ j at. subst (λ xs. Contains xs j) (sym same_ids)
            (are.within j (reached_node g i j are i_in (component_node j at)));
        symmetric = λ a b. same_tests _ _ (link_back a b) (link_back b a);
        irreflexive = λ a e. are.irreflexive a (component_link a a e).1;
        ends = λ a b e. node_of_component a (component_link a b e).0;
      }

  pub component_is : IsComponent g i (component g i)
  component_is = record {
    as_graph = component_graph;
    connected = λ a b a_in b_in.
        let to_a = component_node a a_in in
        let there =
        reached_on g a i b (reached_back g are i a to_a) (component_node b b_in) in
        (there.0, walk_within a b there.0 to_a there.1);
    ids = component_same_ids g i;
    same_nodes = λ j. (component_node j, node_of_component j);
    same_links = λ a b. (component_link a b, λ (p : IsReached g i a × AreLinked g a b). link_of_component a b p.0 p.1);
  }

-- two nodes with a walk between them have one component
pub same_component : (g : Graph) (i j : ℕ) → IsGraph g → IsNode g i → IsReached g i j → component g j ≡ component g i
same_component g i j are i_in r =
    let of_j = component_is g j are (reached_node g i j are i_in r) in
    let back = reached_back g are i j r in
    one_part g i (component g j) (component g i)
    (record {
      as_graph = of_j.as_graph;
      connected = of_j.connected;
      ids = of_j.ids;
      same_nodes = λ k. (
        λ at. reached_on g i j k r ((of_j.same_nodes k).0 at),
        λ there. (of_j.same_nodes k).1 (reached_on g j i k back there),
      );
      same_links = λ a b. (
        λ at. let p = (of_j.same_links a b).0 at in (reached_on g i j a r p.0, p.1),
        λ (p : IsReached g i a × AreLinked g a b). (of_j.same_links a b).1 (reached_on g j i a back p.0, p.1),
      );
    })
    (component_is g i are i_in)

-- and one leader
pub same_leader : (g : Graph) (i j : ℕ) → IsGraph g → IsNode g i → IsReached g i j → leader g j ≡ leader g i
unfolding leader
same_leader g i j are i_in r = ap greatest (same_component g i j are i_in r)

-- a connected graph is the component of each of its nodes
pub whole_component : (g : Graph) (i : ℕ) → IsGraph g → IsConnected g → IsNode g i → component g i ≡ g
whole_component g i are whole i_in =
    one_part g i (component g i) g (component_is g i are i_in)
    (record {
      as_graph = are;
      connected = whole;
      ids = refl;
      same_nodes = λ j. (λ j_in. whole i j i_in j_in, λ r. reached_node g i j are i_in r);
      same_links = λ a b. (λ e. (whole i a i_in (are.ends a b e), e), λ (p : IsReached g i a × AreLinked g a b). p.1);
    })

-- and has one leader, the greatest id of all
pub connected_leader : (g : Graph) (i : ℕ) → IsGraph g → IsConnected g → IsNode g i → leader g i ≡ greatest g
unfolding leader
connected_leader g i are whole i_in = ap greatest (whole_component g i are whole i_in)

-- ---- leaders

pub leader_leads : (g : Graph) (i : ℕ) → IsGraph g → IsNode g i → IsLeader g i (leader g i)
unfolding leader
leader_leads g i are i_in =
    let part = component_is g i are i_in in
    let here : IsNode (component g i) i = (part.same_nodes i).1 (reached_itself g i) in
    let some : 0 < length (component g i).nodes = omega (arith, here.1) in
    record {
      reached = (part.same_nodes (greatest (component g i))).0 (greatest_node (component g i) some);
      greatest = λ j r. at_most_greatest (component g i) j part.as_graph ((part.same_nodes j).1 r);
    }

pub one_leader : (g : Graph) (i a b : ℕ) → IsLeader g i a → IsLeader g i b → a ≡ b
one_leader g i a b p q = omega (arith, p.greatest b q.reached, q.greatest a p.reached)

pub leader_node : (g : Graph) (i : ℕ) → IsGraph g → IsNode g i → IsNode g (leader g i)
leader_node g i are i_in = reached_node g i (leader g i) are i_in (leader_leads g i are i_in).reached

-- ---- the component of a node of a component

pub part_component : (g : Graph) (i j : ℕ) → IsGraph g → IsNode g i → IsReached g i j
    → component (component g i) j ≡ component g i
part_component g i j are i_in r =
    let part = component_is g i are i_in in
    whole_component (component g i) j part.as_graph part.connected ((part.same_nodes j).1 r)

pub part_leader : (g : Graph) (i j : ℕ) → IsGraph g → IsNode g i → IsReached g i j
    → leader (component g i) j ≡ leader g i
unfolding leader
part_leader g i j are i_in r = ap greatest (part_component g i j are i_in r)
