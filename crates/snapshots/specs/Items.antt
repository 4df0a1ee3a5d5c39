-- The items of a snapshot: what its lines say of a configuration.
use Rattle.std.specs.Prelude.{◌≡◌, ℕ, ◌<◌, ◌^◌, ◌==◌, Bool, true, false, List, [], ◌∷◌, ◌++◌, Some, codes}
use Rattle.std.specs.Fmt.{decimal}
use Rattle.std.specs.List.{flat_map, list_any}
use Rattle.tree_layer.specs.declared.regs.TreeRegs.{TreeRegs}
use Rattle.applications.specs.Meaning.{Meaning}
use Rattle.history.specs.HistoryText.{ended}
use Rattle.script_replay.specs.Output.{link_line, node_head}
use Rattle.snapshots.specs.declared.item.Item.{Item}
use Rattle.snapshots.specs.declared.item.Item.TheVariants.{Version, Node, Link, NoLink}
use Rattle.snapshots.specs.declared.item.NodeState.{NodeState}

-- ---- lines

-- the line that names a version
abbrev pub version_line : ℕ → List ℕ
version_line version = codes "reset-snapshot " ++ decimal version

abbrev pub TreeFits : TreeRegs → Type 0
TreeFits tree = (tree.root < 2 ^ 32) × (tree.father < 2 ^ 32) × (tree.dist < 2 ^ 32)

-- the line is that of a node with these registers, before a text that the application reads as its local state; its
-- numbers are those of 32 bits
pub record IsNodeLine {L : Type 0} (m : Meaning L) (line : List ℕ) (node : NodeState L) : Type 0 where
  pub text : List ℕ
  pub spelled : line ≡ node_head node.id node.tree node.wave ++ text
  pub local : m.from_text text ≡ Some node.local
  pub small : node.id < 2 ^ 32
  pub tree : TreeFits node.tree
  pub session : node.wave.session < 2 ^ 32

-- the n-th line of a snapshot spells the item
abbrev pub Spells : {L : Type 0} → Meaning L → ℕ → List ℕ → Item L → Type 0
Spells m n line (Version version) = (n ≡ 1) × (version < 2 ^ 32) × (line ≡ version_line version)
Spells m n line (Node node) = IsNodeLine m line node
Spells m n line (Link a b) = (a < 2 ^ 32) × (b < 2 ^ 32) × (ended line ≡ link_line (a, b))
Spells m n line NoLink = line ≡ codes "link -"

-- ---- what items name

abbrev pub node_in : {L : Type 0} → Item L → List (NodeState L)
node_in (Node node) = node ∷ []
node_in item = []

-- the nodes that items name, in their order
abbrev pub nodes_in : {L : Type 0} → List (Item L) → List (NodeState L)
nodes_in items = flat_map node_in items

abbrev pub link_in : {L : Type 0} → Item L → List (ℕ × ℕ)
link_in (Link a b) = (a, b) ∷ []
link_in item = []

-- the links that items name, in their order
abbrev pub links_in : {L : Type 0} → List (Item L) → List (ℕ × ℕ)
links_in items = flat_map link_in items

abbrev pub is_of_links : {L : Type 0} → Item L → Bool
is_of_links (Link a b) = true
is_of_links NoLink = true
is_of_links item = false

-- whether items say which links there are
abbrev pub list_links : {L : Type 0} → List (Item L) → Bool
list_links items = list_any is_of_links items

-- whether one of the nodes has this identifier
abbrev pub has_node : {L : Type 0} → List (NodeState L) → ℕ → Bool
has_node nodes i = list_any (λ node. node.id == i) nodes
