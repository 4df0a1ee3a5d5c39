-- Walks and leaders of linked nodes.
use Rattle.std.proofs.Common.{◌≡◌, ℕ, List, [], ◌∷◌, subst, arith}
use Rattle.topology.specs.Graph.{Graph, IsGraph, IsNode, AreLinked, IsWalk, IsLeader}
use Rattle.topology.proofs.Walks.{linked_back}

module _ (g : Graph) (graph : IsGraph g) where
  -- what a node is linked to is a node
  pub linked_node : (i j : ℕ) → AreLinked g i j → IsNode g j
  linked_node i j linked = graph.ends j i (linked_back g graph i j linked)

  -- what a walk from a node reaches is a node
  pub walked_node : (cs : List ℕ) (i j : ℕ) → IsNode g i → IsWalk g i cs j → IsNode g j
  walked_node [] i j node walk = subst (λ k. IsNode g k) walk node
  walked_node (c ∷ cs) i j node walk = walked_node cs c j (linked_node i c walk.0) walk.1

  -- linked nodes have one leader
  pub linked_leaders : {i j a b : ℕ} → AreLinked g i j → IsLeader g i a → IsLeader g j b → a ≡ b
  linked_leaders {i} {j} linked own other =
      let up = own.greatest _ (j ∷ other.reached.0, (linked, other.reached.1)) in
      let down = other.greatest _ (i ∷ own.reached.0, (linked_back g graph i j linked, own.reached.1)) in
      omega (arith, up, down)
