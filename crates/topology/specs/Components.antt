-- The parts into which a graph falls: each node's component, and its leader.
use Rattle.std.specs.Prelude.{◌≡◌, ◌↔◌, ℕ, Bool, filter, length}
use Rattle.std.specs.FinSet as set
use Rattle.topology.specs.Graph.{Graph, IsGraph, IsConnected, IsNode, AreLinked, IsReached, greatest}
use Rattle.topology.specs.Reaching.{is_reached}

-- whether a walk leads from a to b; none needs more links than there are identifiers
unfoldable pub reaches : Graph → ℕ → ℕ → Bool
reaches g a b = is_reached g a b (length g.ids)

-- the component of a node, as a graph of its own: the nodes that walks from it lead to, and the links between them;
-- the identifiers are those of the whole graph, so that its K is the same
unfoldable pub component : Graph → ℕ → Graph
component g i = record {
  ids = g.ids;
  nodes = filter (reaches g i) g.nodes;
  links = set.retain g.links (λ link. reaches g i link.0);
}

-- the leader of a node: the greatest id of its component
unfoldable pub leader : Graph → ℕ → ℕ
leader g i = greatest (component g i)

-- h is the part of the graph g that walks from the node i lead to
pub record IsComponent (g : Graph) (i : ℕ) (h : Graph) : Type 0 where
  pub as_graph : IsGraph h
  pub connected : IsConnected h
  pub ids : h.ids ≡ g.ids
  pub same_nodes : (j : ℕ) → (IsNode h j ↔ IsReached g i j)
  pub same_links : (a b : ℕ) → (AreLinked h a b ↔ IsReached g i a × AreLinked g a b)
