-- The configuration that the items of a snapshot name.
use Rattle.std.specs.Prelude.{◌≡◌, ℕ, Bool, ◌&&◌, if◌then◌else◌, List, All}
use Rattle.std.specs.List.{list_any}
use Rattle.app_interface.specs.Application.{App}
use Rattle.topology.specs.Building.{joins}
use Rattle.topology.specs.Graph.{Graph, IsGraph, are_linked, is_node}
use Rattle.reset_model.specs.Configuration.{Configuration, IsShaped, local_of, tree_of, wave_of}
use Rattle.applications.specs.Meaning.{Meaning}
use Rattle.snapshots.specs.Items.{has_node, links_in, list_links, nodes_in}
use Rattle.snapshots.specs.Reading.{IsTextOf}
use Rattle.snapshots.specs.declared.item.Item.{Item}
use Rattle.snapshots.specs.declared.item.NodeState.{NodeState}

-- whether items link a and b: they name the link, or they name no links, and it is one of the graph's between nodes
-- that they name
abbrev pub links_by : {L : Type 0} → Graph → List (Item L) → ℕ → ℕ → Bool
links_by g items a b =
    if list_links items then list_any (joins a b) (links_in items)
    else (are_linked g a b && (has_node (nodes_in items) a && has_node (nodes_in items) b))

-- the configuration has these registers and this local state at the node
abbrev pub Holds : {L : Type 0} → App L → Configuration L → NodeState L → Type 0
Holds app c node =
    (tree_of c node.id ≡ node.tree) × (wave_of c node.id ≡ node.wave) × (local_of app c node.id ≡ node.local)

-- items name the configuration: it has the identifiers of the graph, of which those that items name are up, linked as
-- they say, each with the registers and the local state of its item; its sessions are counted modulo n
pub record AreNamed {L : Type 0} (app : App L) (g : Graph) (n : ℕ) (items : List (Item L)) (c : Configuration L) : Type 0 where
  pub as_graph : IsGraph c.graph
  pub shaped : IsShaped c
  pub modulus : c.modulus ≡ n
  pub ids : c.graph.ids ≡ g.ids
  pub up : (i : ℕ) → is_node c.graph i ≡ has_node (nodes_in items) i
  pub links : (a b : ℕ) → are_linked c.graph a b ≡ links_by g items a b
  pub nodes : All (Holds app c) (nodes_in items)

-- the text is a snapshot of the configuration
abbrev pub IsSnapshotOf : {L : Type 0} → Meaning L → Graph → ℕ → List ℕ → Configuration L → Type 0
IsSnapshotOf {L} m g modulus text c = (items : List (Item L)) × IsTextOf m g text items × AreNamed m.app g modulus items c
