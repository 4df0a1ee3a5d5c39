-- The tree registers that an identifier is booted with.
use Rattle.std.specs.Prelude.{◌≡◌, ◌≢◌, ℕ, ◌+◌, ◌<◌, ◌≤◌, List, length, slice_index, slice_index_or}
use Rattle.topology.specs.Components.{leader}
use Rattle.topology.specs.Graph.{Graph, AreLinked, IsDistance, IsLeader, IsNode}
use Rattle.tree_layer.specs.declared.regs.TreeRegs.{TreeRegs}
use Rattle.tree_layer.specs.TreeRows.{claimed}

-- j is a neighbour of i one step nearer to the root, which is d steps from i
pub record IsNearer (g : Graph) (root d i j : ℕ) : Type 0 where
  pub linked : AreLinked g i j
  pub steps : ℕ
  pub distance : IsDistance g j root steps
  pub nearer : steps + 1 ≡ d

-- the root is the leader, the distance that to the leader, and the father the least id one step
-- nearer; the leader is its own father
pub record IsBooted (g : Graph) (i : ℕ) (regs : TreeRegs) : Type 0 where
  pub root : IsLeader g i regs.root
  pub dist : IsDistance g i regs.root regs.dist
  pub top : i ≡ regs.root → regs.father ≡ i
  pub father : i ≢ regs.root → IsNearer g regs.root regs.dist i regs.father
  pub least : (j : ℕ) → IsNearer g regs.root regs.dist i j → regs.father ≤ j

-- the registers of an identifier: of a node those that it is booted with, and of one that is down those of a
-- node that claims to be the root
pub record IsBootedOrDown (g : Graph) (i : ℕ) (regs : TreeRegs) : Type 0 where
  pub up : IsNode g i → IsBooted g i regs
  pub down : (IsNode g i → ⊥) → regs ≡ claimed i

-- the registers of all identifiers, up or down, in their order
pub record AreBooted (g : Graph) (trees : List TreeRegs) : Type 0 where
  pub count : length trees ≡ length g.ids
  pub each : (ix : ℕ) (regs : TreeRegs) → ix < length trees → IsNode g (slice_index g.ids ix)
      → IsBooted g (slice_index g.ids ix) (slice_index_or trees ix regs)
  pub down : (ix : ℕ) (regs : TreeRegs) → ix < length trees → (IsNode g (slice_index g.ids ix) → ⊥)
      → slice_index_or trees ix regs ≡ claimed (slice_index g.ids ix)

-- the distances of all nodes to their leaders, in the order of the ids
pub record AreDistances (g : Graph) (distances : List ℕ) : Type 0 where
  pub count : length distances ≡ length g.ids
  pub each : (k : ℕ) → k < length g.ids → IsNode g (slice_index g.ids k)
      → IsDistance g (slice_index g.ids k) (leader g (slice_index g.ids k)) (slice_index distances k)
  pub below : (k : ℕ) → k < length g.ids → slice_index distances k < length g.ids

-- the numbers that were found below their count are kept, and elsewhere stays what there was
pub record KeepsFound (found old new : List ℕ) : Type 0 where
  pub count : length new ≡ length old
  pub kept : (k : ℕ) → k < length found → slice_index found k < length found
      → slice_index new k ≡ slice_index found k
  pub others : (k : ℕ) → k < length found → length found ≤ slice_index found k
      → slice_index new k ≡ slice_index old k

-- n is the first of these indexes whose distance is one less than d
pub record IsFirstNearer (near distances : List ℕ) (d n : ℕ) : Type 0 where
  pub place : ℕ
  pub there : place < length near
  pub item : slice_index near place ≡ n
  pub nearer : slice_index distances n + 1 ≡ d
  pub before : (m : ℕ) → m < place → slice_index distances (slice_index near m) + 1 ≢ d

-- none of these indexes has a distance one less than d
abbrev pub NoneNearer : List ℕ → List ℕ → ℕ → Type 0
NoneNearer near distances d = (m : ℕ) → m < length near → slice_index distances (slice_index near m) + 1 ≢ d
