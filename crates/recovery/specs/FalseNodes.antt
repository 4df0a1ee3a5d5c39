-- Nodes that know a root that is none, or a way to their leader that there isn't.
use Rattle.std.specs.Prelude.{◌≡◌, ◌≢◌, ℕ, suc, ◌<◌, ◌≤◌, ◌+◌, ◌-◌, ◌⊎◌, Bool, true, not, cond, ◌&&◌, ◌||◌, ◌==◌, nat_lt, Option, Some, None}
use Rattle.std.specs.List.{sum_by}
use Rattle.topology.specs.Graph.{Graph, AreLinked, IsNode, IsLeader, IsDistance, node_bound}
use Rattle.tree_layer.specs.declared.regs.TreeRegs.{TreeRegs}
use Rattle.tree_layer.specs.TreeRows.{claimed}
use Rattle.tree_layer.specs.TreePicture.{TreePicture}
use Rattle.reset_model.specs.Configuration.{Configuration, tree_of}

-- of each node its leader and the distance to it, which is below K
pub record AreLed (g : Graph) (K : ℕ) (top far : ℕ → ℕ) : Type 0 where
  pub leads : (i : ℕ) → IsNode g i → IsLeader g i (top i)
  pub dist : (i : ℕ) → IsNode g i → IsDistance g i (top i) (far i)
  pub short : (i : ℕ) → IsNode g i → far i < K

-- i knows a root beyond its leader, or its leader, which isn't its own root yet, or a way to it that is too short
pub data IsFalse (top far : ℕ → ℕ) (t : ℕ → TreeRegs) (i : ℕ) : Type 0 where
  over : top i < (t i).root → IsFalse top far t i
  unled : (t i).root ≡ top i → t (top i) ≢ claimed (top i) → IsFalse top far t i
  near : (t i).root ≡ top i → (t i).dist < far i → IsFalse top far t i

-- i knows its leader and the way to it: the leader is its own father, and another node's is a neighbour one nearer
pub record IsPlaced (g : Graph) (top far : ℕ → ℕ) (t : ℕ → TreeRegs) (i : ℕ) : Type 0 where
  pub root : (t i).root ≡ top i
  pub dist : (t i).dist ≡ far i
  pub father : ((i ≡ top i) × ((t i).father ≡ i)) ⊎ (AreLinked g i (t i).father × (far (t i).father + 1 ≡ far i))

-- the same as a test
abbrev pub is_claimed : TreeRegs → ℕ → Bool
is_claimed regs k = regs.root == k && regs.father == k && regs.dist == 0

abbrev pub is_false : (ℕ → ℕ) → (ℕ → ℕ) → (ℕ → TreeRegs) → ℕ → Bool
is_false top far t i =
    nat_lt (top i) (t i).root
    || ((t i).root == top i && (not (is_claimed (t (top i)) (top i)) || nat_lt (t i).dist (far i)))

-- how many steps the false nodes may yet take
abbrev pub weight : ℕ → (ℕ → ℕ) → (ℕ → ℕ) → (ℕ → TreeRegs) → ℕ → ℕ
weight K top far t i = cond (is_false top far t i) (suc (K - (t i).dist)) 0

abbrev pub potential : Graph → ℕ → (ℕ → ℕ) → (ℕ → ℕ) → (ℕ → TreeRegs) → ℕ
potential g K top far t = sum_by (weight K top far t) g.nodes

-- b has the tree of shortest ways of the graph of c
pub record IsTarget {L : Type 0} (c b : Configuration L) : Type 0 where
  pub graph : b.graph ≡ c.graph
  pub picture : TreePicture c.graph (tree_of b)

abbrev pub top_of : {L : Type 0} → Configuration L → ℕ → ℕ
top_of b i = (tree_of b i).root

abbrev pub far_of : {L : Type 0} → Configuration L → ℕ → ℕ
far_of b i = (tree_of b i).dist

abbrev pub AllTrue : {L : Type 0} → Configuration L → Configuration L → Type 0
AllTrue c b = (i : ℕ) → IsNode c.graph i → IsFalse (top_of b) (far_of b) (tree_of c) i → ⊥

abbrev pub potential_of : {L : Type 0} → Configuration L → Configuration L → ℕ
potential_of c b = potential c.graph (node_bound c.graph) (top_of b) (far_of b) (tree_of c)

-- i is a false node of least distance
pub record IsLowest {L : Type 0} (c b : Configuration L) (i : ℕ) : Type 0 where
  pub node : IsNode c.graph i
  pub is : is_false (top_of b) (far_of b) (tree_of c) i ≡ true
  pub least : (j : ℕ) → IsNode c.graph j → is_false (top_of b) (far_of b) (tree_of c) j ≡ true
      → (tree_of c i).dist ≤ (tree_of c j).dist

-- i is a node that is false
abbrev pub IsFalseNode : {L : Type 0} → Configuration L → Configuration L → ℕ → Type 0
IsFalseNode c b i = IsNode c.graph i × (is_false (top_of b) (far_of b) (tree_of c) i ≡ true)

-- a node was named whose distance is at most that of x
abbrev pub AtMost : {L : Type 0} → Configuration L → Option ℕ → ℕ → Type 0
AtMost c None x = ⊥
AtMost c (Some i) x = (tree_of c i).dist ≤ (tree_of c x).dist

-- a step more, and fewer are left
pub record Forgets {L : Type 0} (c b c' : Configuration L) : Type 0 where
  pub graph : c'.graph ≡ c.graph
  pub fewer : potential_of c' b < potential_of c b

-- c' is c but for i, which has its place there; no node is false
pub record Places {L : Type 0} (c b c' : Configuration L) (i : ℕ) : Type 0 where
  pub graph : c'.graph ≡ c.graph
  pub placed : IsPlaced c.graph (top_of b) (far_of b) (tree_of c') i
  pub others : (j : ℕ) → IsNode c.graph j → j ≢ i → tree_of c' j ≡ tree_of c j
  pub all_true : (j : ℕ) → IsNode c.graph j → IsFalse (top_of b) (far_of b) (tree_of c') j → ⊥

-- no node is false, and the nodes nearer than i have their places
pub record IsNext {L : Type 0} (c b : Configuration L) (i : ℕ) : Type 0 where
  pub node : IsNode c.graph i
  pub all_true : AllTrue c b
  pub nearer : (j : ℕ) → IsNode c.graph j → far_of b j < far_of b i
      → IsPlaced c.graph (top_of b) (far_of b) (tree_of c) j
