-- What holds while nodes mend in turn, nearer ones first.
use Rattle.std.specs.Prelude.{◌≡◌, ◌≢◌, ℕ, ◌<◌, List, slice_index_or}
use Rattle.topology.specs.Graph.{IsNode}
use Rattle.tree_layer.specs.TreeRows.{IsFather}
use Rattle.wave_layer.specs.WaveTable.{WaveHolds}
use Rattle.reset_model.specs.Configuration.{Configuration, tree_of, wave_of}

-- c' differs from c in wave registers and local states alone
pub record KeepsTree {L : Type 0} (c c' : Configuration L) : Type 0 where
  pub graph : c'.graph ≡ c.graph
  pub modulus : c'.modulus ≡ c.modulus
  pub trees : (i : ℕ) → IsNode c.graph i → tree_of c' i ≡ tree_of c i

-- of the wave registers at most those of i changed, and at its father link the wave predicate holds
pub record MendsAt {L : Type 0} (c c' : Configuration L) (i : ℕ) : Type 0 where
  pub keeps : KeepsTree c c'
  pub here : (j : ℕ) → IsFather c.graph (tree_of c) i j → WaveHolds c.modulus (wave_of c' i) (wave_of c' j)
  pub others : (k : ℕ) → IsNode c.graph k → k ≢ i → wave_of c' k ≡ wave_of c k

-- the tree is kept, and at the father links of the first n of the list the wave predicate holds
pub record AreMendedFirst {L : Type 0} (c c' : Configuration L) (order : List ℕ) (n : ℕ) : Type 0 where
  pub keeps : KeepsTree c c'
  pub first : (k d j : ℕ) → k < n → IsFather c.graph (tree_of c) (slice_index_or order k d) j
      → WaveHolds c.modulus (wave_of c' (slice_index_or order k d)) (wave_of c' j)
