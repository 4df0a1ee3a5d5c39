-- How a snapshot is read, and its first fault.
use Rattle.std.specs.Prelude.{◌≡◌, ℕ, ◌+◌, ◌≤◌, ◌==◌, true, not, nat_lt, min, max, List, [], ◌∷◌, ◌++◌}
use Rattle.std.specs.Prelude.{length, Option, Some, None}
use Rattle.std.specs.List.{find, list_any}
use Rattle.topology.specs.Building.{joins}
use Rattle.topology.specs.Changing.{Reason, first_of, when}
use Rattle.topology.specs.Faults.{ends_of}
use Rattle.topology.specs.Graph.{Graph, has}
use Rattle.applications.specs.Meaning.{Meaning}
use Rattle.script_replay.specs.Lines.{lines_of}
use Rattle.script_replay.specs.Script.{is_silent}
use Rattle.snapshots.specs.Items.{Spells, has_node, links_in, nodes_in}
use Rattle.snapshots.specs.declared.item.Item.{Item}
use Rattle.snapshots.specs.declared.item.Item.TheVariants.{Version, Node, Link, NoLink}
use Rattle.snapshots.specs.declared.item.NodeState.{NodeState}
use Rattle.snapshots.specs.declared.fault.SnapshotFault.{SnapshotFault}
use Rattle.snapshots.specs.declared.fault.SnapshotFault.TheVariants.{BadLine, BadVersion, StrangeNode, TwiceNode}
use Rattle.snapshots.specs.declared.fault.SnapshotFault.TheVariants.{SelfLink, TwiceLink, TooManyLinks}

-- ---- lines

-- what the n-th line says: nothing, where it is empty or a comment, or an item. It has at most 65,536 bytes
pub data Says {L : Type 0} (m : Meaning L) (n : ℕ) (line : List ℕ) : Option (Item L) → Type 0 where
  nothing : length line ≤ 65536 → is_silent line ≡ true → Says m n line None
  an_item : length line ≤ 65536 → (item : Item L) → Spells m n line item → Says m n line (Some item)

-- ---- refusals

-- why the node with this identifier can't be named after those nodes
abbrev pub node_refusals : {L : Type 0} → Graph → List (NodeState L) → ℕ → List (Reason SnapshotFault)
node_refusals g nodes i = when (not (has g.ids i)) (StrangeNode i) ∷ when (has_node nodes i) (TwiceNode i) ∷ []

-- why the link of a and b can't be named after those links
abbrev pub link_refusals : Graph → List (ℕ × ℕ) → ℕ → ℕ → List (Reason SnapshotFault)
link_refusals g links a b =
    when (not (has g.ids a)) (StrangeNode a) ∷ when (not (has g.ids b)) (StrangeNode b) ∷ when (a == b) (SelfLink a)
    ∷ when (list_any (joins a b) links) (TwiceLink (min a b) (max a b))
    ∷ when (not (nat_lt (length links) 8192)) TooManyLinks ∷ []

-- the refusals of an item after others, in their order
abbrev pub refusals : {L : Type 0} → Graph → List (Item L) → Item L → List (Reason SnapshotFault)
refusals g before (Version version) = when (not (version == 1)) BadVersion ∷ []
refusals g before (Node node) = node_refusals g (nodes_in before) node.id
refusals g before (Link a b) = link_refusals g (links_in before) a b
refusals g before NoLink = []

-- the refusals of what a line says
abbrev pub said_refusals : {L : Type 0} → Graph → List (Item L) → Option (Item L) → List (Reason SnapshotFault)
said_refusals g before None = []
said_refusals g before (Some item) = refusals g before item

-- ---- texts

-- items, and behind them what a line says
abbrev pub with_said : {L : Type 0} → List (Item L) → Option (Item L) → List (Item L)
with_said items None = items
with_said items (Some item) = items ++ item ∷ []

-- after those items lines say others, which makes these; the first line has the number n, and none is refused
abbrev pub Say : {L : Type 0} → Meaning L → Graph → ℕ → List (Item L) → List (List ℕ) → List (Item L) → Type 0
Say m g n items [] all = items ≡ all
Say {L} m g n items (line ∷ lines) all =
    (said : Option (Item L)) × Says m n line said × (first_of (said_refusals g items said) ≡ None)
    × Say m g (n + 1) (with_said items said) lines all

-- the fault of the n-th line after those items: it says nothing that a line can say, or what it says is refused
pub data IsLineFault {L : Type 0} (m : Meaning L) (g : Graph) (n : ℕ) (items : List (Item L)) (line : List ℕ)
    (f : SnapshotFault) : Type 0 where
  bad : ((said : Option (Item L)) → Says m n line said → ⊥) → f ≡ BadLine n → IsLineFault m g n items line f
  refused : (said : Option (Item L)) → Says m n line said → first_of (said_refusals g items said) ≡ Some f
      → IsLineFault m g n items line f

-- the first end of a link that no item names as a node
abbrev pub down_end : {L : Type 0} → List (Item L) → Option ℕ
down_end items = find (λ i. not (has_node (nodes_in items) i)) (ends_of (links_in items))

-- the first fault of a text: that of a line, or a link with an end that is down
pub data IsFirstFault {L : Type 0} (m : Meaning L) (g : Graph) (text : List ℕ) (f : SnapshotFault) : Type 0 where
  of_a_line : (before : List (List ℕ)) (line : List ℕ) (after : List (List ℕ)) (items : List (Item L))
      → lines_of text ≡ before ++ line ∷ after → Say m g 1 [] before items
      → IsLineFault m g (length before + 1) items line f → IsFirstFault m g text f
  of_an_end : (items : List (Item L)) (i : ℕ) → Say m g 1 [] (lines_of text) items → down_end items ≡ Some i
      → f ≡ StrangeNode i → IsFirstFault m g text f

-- the text says these items, and has no fault
pub record IsTextOf {L : Type 0} (m : Meaning L) (g : Graph) (text : List ℕ) (items : List (Item L)) : Type 0 where
  pub said : Say m g 1 [] (lines_of text) items
  pub up : down_end items ≡ None
