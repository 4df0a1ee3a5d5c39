-- The rows of the tree table between the registers of a whole graph.
use Rattle.std.specs.Prelude.{◌≡◌, ◌≢◌, ℕ, ◌+◌, ◌<◌, ◌≤◌, ◌⊎◌, min}
use Rattle.topology.specs.Graph.{Graph, AreLinked}
use Rattle.tree_layer.specs.declared.regs.TreeRegs.{TreeRegs}

-- i's father register names its neighbour j
pub record IsFather (g : Graph) (t : ℕ → TreeRegs) (i j : ℕ) : Type 0 where
  pub named : (t i).father ≡ j
  pub linked : AreLinked g i j

-- rows 1 to 4, where K bounds the distances: what the node knows of its root and father is wrong
pub data Claims (g : Graph) (K : ℕ) (t : ℕ → TreeRegs) (i : ℕ) : Type 0 where
  claim_low : (t i).root < i → Claims g K t i
  claim_self : (t i).father ≡ i → ((t i).root ≢ i) ⊎ ((t i).dist ≢ 0) → Claims g K t i
  claim_stray : (t i).father ≢ i → (AreLinked g i (t i).father → ⊥) → Claims g K t i
  claim_far : K ≤ (t i).dist → Claims g K t i

-- rows 5 and 6: the node's father, a neighbour, has another root or distance than the node takes it to have
pub data Follows (g : Graph) (K : ℕ) (t : ℕ → TreeRegs) (i : ℕ) : Type 0 where
  follow_root : (j : ℕ) → IsFather g t i j → (t i).dist < K → (t i).root ≢ (t j).root → Follows g K t i
  follow_dist : (j : ℕ) → IsFather g t i j → (t i).dist < K → (t i).root ≡ (t j).root → (t i).dist ≢ (t j).dist + 1
      → Follows g K t i

-- rows 7 and 8: the neighbour j knows a greater root, or a shorter way to the same one
pub data Adopts (g : Graph) (K : ℕ) (t : ℕ → TreeRegs) (i j : ℕ) : Type 0 where
  adopt_root : AreLinked g i j → (t j).dist < K → (t i).root < (t j).root → Adopts g K t i j
  adopt_short : AreLinked g i j → (t j).dist < K → (t i).root ≡ (t j).root → (t j).dist + 1 < (t i).dist
      → Adopts g K t i j

-- what rows 1 to 4 leave at i
abbrev pub claimed : ℕ → TreeRegs
claimed i = record { root = i; father = i; dist = 0 }

-- what rows 5 and 6 leave at a node with the father j, whose registers are up
abbrev pub followed : ℕ → ℕ → TreeRegs → TreeRegs
followed K j up = record { root = up.root; father = j; dist = min (up.dist + 1) K }

-- what rows 7 and 8 leave at a node that adopts j, whose registers are up
abbrev pub adopted : ℕ → TreeRegs → TreeRegs
adopted j up = record { root = up.root; father = j; dist = up.dist + 1 }
