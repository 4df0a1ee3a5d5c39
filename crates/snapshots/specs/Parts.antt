-- What is kept of the items of a snapshot, and the steps to the configuration that they name.
use Rattle.std.specs.Prelude.{◌≡◌, ◌≢◌, ℕ, ◌≤◌, true, false, not, List, [], ◌∷◌, All, AllPairs, None, length}
use Rattle.std.specs.List.{find}
use Rattle.topology.specs.Building.{AreApart}
use Rattle.topology.specs.Changing.{without_node}
use Rattle.topology.specs.Faults.{ends_of, ordered_links}
use Rattle.topology.specs.Graph.{Graph, has}
use Rattle.reset_model.specs.Configuration.{Configuration, with_local, with_tree, with_wave}
use Rattle.snapshots.specs.Items.{has_node, links_in, list_links, nodes_in}
use Rattle.snapshots.specs.declared.item.Item.{Item}
use Rattle.snapshots.specs.declared.item.NodeState.{NodeState}
use Rattle.snapshots.specs.declared.reading.Reading.{Reading}

-- the nodes and the links that items name are kept, and whether they name links
pub record AreKept {L : Type 0} (items : List (Item L)) (reading : Reading L) : Type 0 where
  pub nodes : reading.nodes.items ≡ nodes_in items
  pub links : reading.links.items ≡ links_in items
  pub list_links : reading.lists_links ≡ list_links items

-- no two of the nodes have one identifier
abbrev pub AreDistinct : {L : Type 0} → List (NodeState L) → Type 0
AreDistinct [] = Unit {0}
AreDistinct (node ∷ nodes) = (has_node nodes node.id ≡ false) × AreDistinct nodes

-- the nodes are different ones of the graph
pub record ArePossible {L : Type 0} (g : Graph) (nodes : List (NodeState L)) : Type 0 where
  pub known : All (λ node. has g.ids node.id ≡ true) nodes
  pub distinct : AreDistinct nodes

-- the links can be those of a graph
pub record AreLinks (g : Graph) (links : List (ℕ × ℕ)) : Type 0 where
  pub apart : AreApart g.ids links
  pub once : AllPairs (λ l m. l ≢ m) (ordered_links links)
  pub few : length links ≤ 8192

-- each end of a link is one of the nodes
abbrev pub AreEnds : {L : Type 0} → List (NodeState L) → List (ℕ × ℕ) → Type 0
AreEnds nodes links = find (λ i. not (has_node nodes i)) (ends_of links) ≡ None

-- the graph without these nodes
abbrev pub without_nodes : Graph → List ℕ → Graph
without_nodes g [] = g
without_nodes g (i ∷ is) = without_nodes (without_node g i) is

-- the configuration with this state of a node
abbrev pub with_state : {L : Type 0} → Configuration L → NodeState L → Configuration L
with_state c node = with_local (with_wave (with_tree c node.id node.tree) node.id node.wave) node.id node.local

-- the configuration with these states of nodes, of which the last are put first
abbrev pub with_states : {L : Type 0} → Configuration L → List (NodeState L) → Configuration L
with_states c [] = c
with_states c (node ∷ nodes) = with_state (with_states c nodes) node
