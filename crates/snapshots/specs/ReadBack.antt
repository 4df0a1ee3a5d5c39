-- Configurations whose snapshots are read back.
use Rattle.std.specs.Prelude.{◌≡◌, ℕ, ◌<◌, ◌≤◌, ◌^◌, ◌++◌, length}
use Rattle.topology.specs.Graph.{Graph, IsGraph, IsNode}
use Rattle.reset_model.specs.Configuration.{Configuration, IsShaped, local_of, tree_of, wave_of}
use Rattle.applications.specs.Meaning.{Meaning}
use Rattle.script_replay.specs.Output.{links_of, node_head}
use Rattle.snapshots.specs.Items.{TreeFits}

-- a configuration on a topology, with registers of 32 bits, local states that an application can have, at most 8,192
-- links, and lines of at most 65,536 bytes
pub record IsWritable {L : Type 0} (m : Meaning L) (IsLocal : L → Type 0) (g : Graph) (c : Configuration L) : Type 0 where
  pub as_graph : IsGraph c.graph
  pub shaped : IsShaped c
  pub ids : c.graph.ids ≡ g.ids
  pub few : length (links_of c.graph) ≤ 8192
  pub small : (i : ℕ) → IsNode c.graph i → i < 2 ^ 32
  pub trees : (i : ℕ) → IsNode c.graph i → TreeFits (tree_of c i)
  pub sessions : (i : ℕ) → IsNode c.graph i → (wave_of c i).session < 2 ^ 32
  pub locals : (i : ℕ) → IsNode c.graph i → IsLocal (local_of m.app c i)
  pub short : (i : ℕ) → IsNode c.graph i
      → length (node_head i (tree_of c i) (wave_of c i) ++ m.text (local_of m.app c i)) ≤ 65536
