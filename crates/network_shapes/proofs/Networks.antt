-- The network of a shape is a topology.
use Rattle.std.proofs.Common.{◌≡◌, ◌≢◌, ℕ, ◌+◌, ◌<◌, ◌≤◌, List, ◌++◌, length, All}
use Rattle.std.proofs.Common.{AllPairs, Contains, refl, sym, ap, subst, ◌∙◌, arith, inl, inr, ⊎_elim, ◌⊎◌, map}
use Rattle.std.proofs.Common.{Bool, true, false}
use Rattle.std.specs.FinSet as set
use Rattle.std.specs.List.Sorted.{IsStrictlyIncreasing}
use Rattle.std.specs.Ordering.{eq_by_cmp}
use Rattle.std.proofs.lemmas.List.{get_or-map, length-map}
use Rattle.std.proofs.lemmas.List.Elements.{All-contains, All-weaker, Contains-append_cases, Contains-append_left}
use Rattle.std.proofs.lemmas.List.Elements.{Contains-append_right}
use Rattle.std.proofs.lemmas.List.Folds.{Any-from_list_any, list_any-from_Any}
use Rattle.std.proofs.lemmas.List.FromFn.{length-range_with_len}
use Rattle.topology.specs.Faults.{HasFault, IsTopologyOf, ordered_links}
use Rattle.topology.specs.Graph.{Graph, AreLinked, IsGraph, are_linked, pair_cmp}
use Rattle.topology.specs.Id.{IsId}
use Rattle.topology.specs.declared.fault.TopoFault.{TopoFault}
use Rattle.topology.proofs.FaultOrder.{clean_all, clean_apart, clean_distinct, clean_few, clean_ids, clean_known}
use Rattle.topology.proofs.FaultOrder.{clean_links, clean_once, clean_some}
use Rattle.topology.proofs.RowLemmas.{pair_itself, pair_total, same_pair}
use Rattle.network_shapes.specs.Shapes.{node_numbers, shape_links}
use Rattle.network_shapes.specs.declared.shape.Shape.{Shape}
use Rattle.network_shapes.proofs.Linked.{IsUpward, ends_of-upward, ordered_links-upward}
use Rattle.network_shapes.proofs.Ranges.{has_number, number_at}
use Rattle.network_shapes.proofs.Shaped.{apart, few_links, upward}

node_numbers-ids : (count : ℕ) → count ≤ 1024 → All IsId (node_numbers count)
node_numbers-ids count few k d within =
    let at = number_at count k d within in
    record { positive = omega (arith, at.0); small = omega (arith, at.0, at.1) }

node_numbers-apart : (count : ℕ) → AllPairs (λ x y. x ≢ y) (node_numbers count)
node_numbers-apart count i j d less within same =
    let first = number_at count i d (omega arith) in
    let second = number_at count j d within in
    absurd (omega (arith, first.0, second.0))

-- a link from the other end
abbrev turned : ℕ × ℕ → ℕ × ℕ
turned l = (l.1, l.0)

turned_there : (ls : List (ℕ × ℕ)) (l : ℕ × ℕ) → Contains ls l → Contains (map turned ls) (turned l)
turned_there ls l at = (
  at.0,
  omega (arith, at.1, length-map ls turned),
  get_or-map turned ls at.0 l (turned l) at.1 ∙ ap turned at.2,
)

turned_back : (ls : List (ℕ × ℕ)) (l : ℕ × ℕ) → Contains (map turned ls) l → Contains ls (turned l)
turned_back ls l at =
    let low : at.0 < length ls = omega (arith, at.1, length-map ls turned) in
    (at.0, low, ap turned (sym (get_or-map turned ls at.0 (turned l) l low) ∙ at.2))

-- two tests that tell each other
same_tests : (s t : Bool) → (s ≡ true → t ≡ true) → (t ≡ true → s ≡ true) → s ≡ t
same_tests true t to from = sym (to refl)
same_tests false true to from = from refl
same_tests false false to from = refl

module _ (shape : Shape) (count seed : ℕ) (some : 0 < count) (few : count ≤ 1024) where
  abbrev nodes : List ℕ
  nodes = node_numbers count

  abbrev links : List (ℕ × ℕ)
  links = shape_links shape count seed

  sound : (f : TopoFault) → HasFault nodes links f → ⊥
  sound =
      let count_of : length nodes ≡ count = length-range_with_len 1 count in
      let up = upward shape count seed some in
      let once : AllPairs (λ l m. l ≢ m) (ordered_links links) =
      subst (AllPairs (λ l m. l ≢ m)) (sym (ordered_links-upward count links up)) (apart shape count seed some) in
      let different : All (λ l. l.0 ≢ l.1) links =
      All-weaker (IsUpward count) (λ (l : ℕ × ℕ). l.0 ≢ l.1) (λ l is same. absurd (omega (arith, is.upward))) links
      up in
      clean_all nodes links
      (clean_once nodes links
      (clean_apart nodes links
      (clean_known nodes links
      (clean_links nodes links
      (clean_distinct nodes links
      (clean_ids nodes links
      (clean_few nodes links (clean_some nodes links (λ none. absurd (omega (arith, ap length none)))) (omega arith))
      (node_numbers-ids count few))
      (node_numbers-apart count))
      (omega (arith, few_links shape count seed some)))
      (ends_of-upward count links up))
      different)
      once)

  -- ---- the graph

  -- each link in both directions
  abbrev pairs : List (ℕ × ℕ)
  pairs = links ++ map turned links

  abbrev graph : Graph
  graph = record { ids = nodes; nodes = nodes; links = set.from_list pairs }

  linked_from : (a b : ℕ) → AreLinked graph a b → Contains links (a, b) ⊎ Contains links (b, a)
  linked_from a b linked =
      let at =
      Any-from_list_any (eq_by_cmp pair_cmp (a, b)) pairs
      (sym (set.contains-from_list pair_total pairs (a, b)) ∙ linked) in
      let p : ℕ × ℕ = at.1 in
      let same : (a, b) ≡ p = same_pair (a, b) p at.4 in
      let there : Contains pairs (a, b) = subst (Contains pairs) (sym same) (at.0, at.2, at.3) in
      ⊎_elim (λ here. inl here) (λ back. inr (turned_back links (a, b) back))
      (Contains-append_cases links (map turned links) (a, b) there)

  linked_by : (a b : ℕ) → Contains pairs (a, b) → AreLinked graph a b
  linked_by a b there =
      set.contains-from_list pair_total pairs (a, b)
      ∙ list_any-from_Any (eq_by_cmp pair_cmp (a, b)) pairs (there.0, (a, b), there.1, there.2, pair_itself (a, b))

  linked_to : (a b : ℕ) → Contains links (a, b) ⊎ Contains links (b, a) → AreLinked graph a b
  linked_to a b at =
      linked_by a b
      (⊎_elim (λ here. Contains-append_left links (map turned links) (a, b) here)
      (λ back. Contains-append_right links (map turned links) (a, b) (turned_there links (b, a) back)) at)

  other_way : (a b : ℕ) → AreLinked graph a b → AreLinked graph b a
  other_way a b linked = linked_to b a (⊎_elim (λ here. inr here) (λ back. inl back) (linked_from a b linked))

  upward_link : (a b : ℕ) → Contains links (a, b) → IsUpward count (a, b)
  upward_link a b at = All-contains (IsUpward count) links (a, b) (upward shape count seed some) at

  ascending : IsStrictlyIncreasing nodes
  ascending k within =
      let here = number_at count k 0 (omega arith) in
      let next = number_at count (k + 1) 0 within in
      omega (arith, here.0, next.0)

  as_graph : IsGraph graph
  as_graph = record {
    some = omega (arith, length-range_with_len 1 count);
    ascending = ascending;
    rising = ascending;
    within = λ i at. at;
    symmetric = λ a b. same_tests (are_linked graph a b) (are_linked graph b a) (other_way a b) (other_way b a);
    irreflexive = λ a linked.
        ⊎_elim (λ at. let up = upward_link a a at in absurd (omega (arith, up.upward)))
        (λ at. let up = upward_link a a at in absurd (omega (arith, up.upward))) (linked_from a a linked);
    ends = λ a b linked.
        ⊎_elim
        (λ at. let up = upward_link a b at in has_number count a up.some (omega (arith, up.upward, up.within)))
        (λ at. let up = upward_link b a at in has_number count a (omega (arith, up.upward)) up.within)
        (linked_from a b linked);
  }

  pub topology : IsTopologyOf nodes links graph
  topology = record {
    sound = sound;
    exact = record {
      as_graph = as_graph;
      up = refl;
      same_nodes = λ i. (λ at. at, λ at. at);
      same_links = λ a b. (linked_from a b, linked_to a b);
    };
  }

-- the network of each shape is a topology
pub shape_topology : (shape : Shape) (count seed : ℕ) → 0 < count → count ≤ 1024
    → (g : Graph) × IsTopologyOf (node_numbers count) (shape_links shape count seed) g
shape_topology shape count seed some few = (graph shape count seed some few, topology shape count seed some few)
