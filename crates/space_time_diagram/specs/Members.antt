-- What is drawn on the lanes of the nodes of a component, node by node.
use Rattle.std.specs.Prelude.{ℕ, if◌then◌else◌, List, []}
use Rattle.topology.specs.Components.{component}
use Rattle.topology.specs.Graph.{Graph, is_node}
use Rattle.space_time_diagram.specs.Completions.{piece}

-- the piece on the lane of j, if that is a node of the component of i
abbrev pub member_piece : (ℕ → ℕ) → Graph → ℕ → ℕ → List ℕ
member_piece lane g i j = if is_node (component g i) j then piece lane j else []
