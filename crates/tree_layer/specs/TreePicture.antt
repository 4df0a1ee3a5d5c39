-- The tree predicate, node by node, and the picture of the whole tree that it amounts to.
use Rattle.std.specs.Prelude.{◌≡◌, ◌≢◌, ℕ, ◌+◌}
use Rattle.topology.specs.Graph.{Graph, IsNode, AreLinked, IsDistance, IsLeader}
use Rattle.tree_layer.specs.declared.regs.TreeRegs.{TreeRegs}
use Rattle.tree_layer.specs.TreeRows.{Claims, Follows, Adopts}

-- no row is enabled at i
pub record TreeRests (g : Graph) (K : ℕ) (t : ℕ → TreeRegs) (i : ℕ) : Type 0 where
  pub claims : Claims g K t i → ⊥
  pub follows : Follows g K t i → ⊥
  pub adopts : (j : ℕ) → Adopts g K t i j → ⊥

-- each node knows its leader and the distance to it; the leader is its own father, and any other
-- node's father is a neighbour one nearer
pub record TreePicture (g : Graph) (t : ℕ → TreeRegs) : Type 0 where
  pub root : (i : ℕ) → IsNode g i → IsLeader g i (t i).root
  pub dist : (i : ℕ) → IsNode g i → IsDistance g i (t i).root (t i).dist
  pub top : (i : ℕ) → IsNode g i → i ≡ (t i).root → (t i).father ≡ i
  pub linked : (i : ℕ) → IsNode g i → i ≢ (t i).root → AreLinked g i (t i).father
  pub nearer : (i : ℕ) → IsNode g i → i ≢ (t i).root → (t i).dist ≡ (t (t i).father).dist + 1
