-- A graph with one node more or less.
use Rattle.std.proofs.Common.{◌≡◌, ℕ, Bool, true, not, ◌&&◌, ◌||◌, ◌==◌, false, refl, sym, ap, ap₂, ◌∙◌}
use Rattle.std.specs.FinSet as set
use Rattle.std.proofs.lemmas.Bool.{and_from, and_parts, or_left}
use Rattle.topology.specs.Changing.{with_node, without_node}
use Rattle.topology.specs.Graph.{Graph, IsGraph, are_linked, has, is_node}
use Rattle.topology.specs.Rows.{AreNodes}
use Rattle.topology.proofs.Indexes.{nodes_among, nodes_without}
use Rattle.topology.proofs.Membership.{Contains-has, has-Contains, has-filter}
use Rattle.topology.proofs.RowLemmas.{pair_antisymmetric}

module _ (g : Graph) (i : ℕ) where
  -- ---- without a node

  pub node_left : (j : ℕ) → is_node (without_node g i) j ≡ (not (j == i) && is_node g j)
  node_left j = has-filter (λ k. not (k == i)) g.nodes j

  -- the links that are left are those neither end of which is the node
  pub linked_left : (a b : ℕ)
      → are_linked (without_node g i) a b ≡ (are_linked g a b && (not (a == i) && not (b == i)))
  linked_left a b =
      set.contains-retain g.links (λ l. not (l.0 == i) && not (l.1 == i)) (a, b)
      (λ x tied. ap (λ (p : ℕ × ℕ). not (p.0 == i) && not (p.1 == i)) (sym (pair_antisymmetric (a, b) x tied)))

  -- ---- with a node

  pub node_joined : (j : ℕ) → is_node (with_node g i) j ≡ ((is_node g j || j == i) && has g.ids j)
  node_joined j = has-filter (λ k. has g.nodes k || k == i) g.ids j

  module _ (are : IsGraph g) where
    either_order : (s t : Bool) → (s && t) ≡ (t && s)
    either_order true true = refl
    either_order true false = refl
    either_order false true = refl
    either_order false false = refl

    pub graph_without : IsGraph (without_node g i)
    graph_without =
        let left : AreNodes g.ids (without_node g i).nodes =
        nodes_without g.ids g.nodes (record { rising = are.rising; within = are.within }) i in
        record {
          some = are.some;
          ascending = are.ascending;
          rising = left.rising;
          within = left.within;
          symmetric = λ a b.
              linked_left a b
              ∙ ap₂ (λ s t. s && t) (are.symmetric a b) (either_order (not (a == i)) (not (b == i)))
              ∙ sym (linked_left b a);
          irreflexive = λ a e.
              are.irreflexive a
              (and_parts (are_linked g a a) (not (a == i) && not (a == i)) (sym (linked_left a a) ∙ e)).0;
          ends = λ a b e.
              let parts =
              and_parts (are_linked g a b) (not (a == i) && not (b == i)) (sym (linked_left a b) ∙ e) in
              let other : not (a == i) ≡ true = (and_parts (not (a == i)) (not (b == i)) parts.1).0 in
              Contains-has (without_node g i).nodes a
              (node_left a
              ∙ and_from (not (a == i)) (is_node g a) other (has-Contains g.nodes a (are.ends a b parts.0)));
        }

    pub graph_with : IsGraph (with_node g i)
    graph_with =
        let more : AreNodes g.ids (with_node g i).nodes =
        nodes_among g.ids are.ascending (λ k. has g.nodes k || k == i) in
        record {
          some = are.some;
          ascending = are.ascending;
          rising = more.rising;
          within = more.within;
          symmetric = are.symmetric;
          irreflexive = are.irreflexive;
          ends = λ a b e.
              let node = are.ends a b e in
              Contains-has (with_node g i).nodes a
              (node_joined a
              ∙ and_from (is_node g a || a == i) (has g.ids a)
              (or_left (is_node g a) (a == i) (has-Contains g.nodes a node))
              (has-Contains g.ids a (are.within a node)));
        }
