-- What a node sees.
use Rattle.std.specs.Prelude.{◌≡◌, ℕ, ◌==◌, if◌then◌else◌, List, map, filter}
use Rattle.std.specs.Map.{lookup}
use Rattle.std.specs.Option.{option_map_or}
use Rattle.app_interface.specs.Application.{App}
use Rattle.topology.specs.Graph.{IsNode, neighbours_of, node_bound}
use Rattle.tree_layer.specs.declared.regs.TreeRegs.{TreeRegs}
use Rattle.tree_layer.specs.TreeTable as tree
use Rattle.wave_layer.specs.declared.regs.WaveRegs.{WaveRegs}
use Rattle.wave_layer.specs.declared.regs.FatherSeen.{FatherSeen}
use Rattle.wave_layer.specs.declared.regs.FatherSeen.TheVariants.{Itself, Lost, Is}
use Rattle.wave_layer.specs.WaveTable as wave
use Rattle.reset_model.specs.declared.event.Event.{Event}
use Rattle.reset_model.specs.declared.plan.Seen.{Seen}
use Rattle.reset_model.specs.declared.plan.Seen.TheVariants.{Tree, Wave}
use Rattle.reset_model.specs.Configuration.{Configuration, tree_of, wave_of, local_of}
use Rattle.reset_model.specs.Steps.{is_of_tree}

-- a neighbour, as a node sees it
pub record Neighbour (L : Type 0) : Type 0 where
  pub id : ℕ
  pub tree : TreeRegs
  pub wave : WaveRegs
  pub local : L

-- its identifier, the bound K and the modulus of the sessions, its own registers and local state, its start state,
-- and its neighbours by ascending identifier
pub record NodeView (L : Type 0) : Type 0 where
  pub id : ℕ
  pub bound : ℕ
  pub modulus : ℕ
  pub tree : TreeRegs
  pub wave : WaveRegs
  pub local : L
  pub start : L
  pub near : List (Neighbour L)

abbrev pub near_of : {L : Type 0} → App L → Configuration L → ℕ → Neighbour L
near_of app c j = record { id = j; tree = tree_of c j; wave = wave_of c j; local = local_of app c j }

-- what the node i of a configuration sees
abbrev pub view_of : {L : Type 0} → App L → Configuration L → ℕ → NodeView L
view_of app c i = record {
  id = i;
  bound = node_bound c.graph;
  modulus = c.modulus;
  tree = tree_of c i;
  wave = wave_of c i;
  local = local_of app c i;
  start = app.start c.graph i;
  near = map (near_of app c) (neighbours_of c.graph i);
}

-- the view is what its node sees now
abbrev pub IsSeen : {L : Type 0} → App L → Configuration L → NodeView L → Type 0
IsSeen app c v = IsNode c.graph v.id × (v ≡ view_of app c v.id)

-- ---- what it sees of a layer

abbrev pub near_trees : {L : Type 0} → List (Neighbour L) → List (ℕ × TreeRegs)
near_trees near = map (λ n. (n.id, n.tree)) near

abbrev pub near_waves : {L : Type 0} → List (Neighbour L) → List (ℕ × WaveRegs)
near_waves near = map (λ n. (n.id, n.wave)) near

abbrev pub tree_view : {L : Type 0} → NodeView L → tree.LocalView
tree_view v = record { id = v.id; bound = v.bound; own = v.tree; near = near_trees v.near }

-- what its father register names: itself, a neighbour, or nobody
abbrev pub father_of : {L : Type 0} → NodeView L → FatherSeen
father_of v =
    if v.tree.father == v.id then Itself
    else option_map_or (λ up. Is up) (lookup (λ k. k == v.tree.father) (near_waves v.near)) Lost

-- the neighbours whose father register names it
abbrev pub children_of : {L : Type 0} → NodeView L → List (Neighbour L)
children_of v = filter (λ n. n.tree.father == v.id) v.near

abbrev pub wave_view : {L : Type 0} → NodeView L → wave.LocalView
wave_view v = record {
  own = v.wave;
  father = father_of v;
  children = near_waves (children_of v);
  modulus = v.modulus;
}

-- what it sees of the layer that the event belongs to
abbrev pub layer_view : {L : Type 0} → NodeView L → Event → Seen
layer_view v e = if is_of_tree e then Tree (tree_view v) else Wave (wave_view v)
