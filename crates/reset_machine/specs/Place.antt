-- A node of a configuration, with its place among the others, and what is seen and done from there.
use Rattle.std.specs.Prelude.{◌≡◌, ℕ, ◌==◌, true, List, Option, Some, Result, position}
use Rattle.app_interface.specs.Application.{App}
use Rattle.topology.specs.Graph.{IsNode, are_linked, neighbours_of, node_bound}
use Rattle.tree_layer.specs.TreeTable as tree
use Rattle.wave_layer.specs.WaveTable as wave
use Rattle.reset_model.specs.declared.event.Event.{Event}
use Rattle.reset_model.specs.declared.plan.Fired.{Fired}
use Rattle.reset_model.specs.declared.step.StepRefusal.{StepRefusal}
use Rattle.reset_model.specs.Actions.{case_outcome_of}
use Rattle.reset_model.specs.Configuration.{Configuration, local_of, tree_of, wave_of}
use Rattle.reset_model.specs.LocalSteps.{rows_fired, tree_view_of, view_of}

pub record NodePlace (L : Type 0) : Type 0 where
  pub config : Configuration L
  pub id : ℕ
  pub index : ℕ

-- the index is that of the identifier among all identifiers, and the node is up
abbrev pub IsPlace : {L : Type 0} → NodePlace L → Type 0
IsPlace p = (position (λ i. i == p.id) p.config.graph.ids ≡ Some p.index) × IsNode p.config.graph p.id

-- the index n is that of the neighbour with the identifier j
abbrev pub IsNear : {L : Type 0} → NodePlace L → ℕ → ℕ → Type 0
IsNear p j n = (position (λ i. i == j) p.config.graph.ids ≡ Some n) × (are_linked p.config.graph p.id j ≡ true)

-- the identifiers of the neighbours, ascending
abbrev pub near_ids : {L : Type 0} → NodePlace L → List ℕ
near_ids p = neighbours_of p.config.graph p.id

-- what the node sees of the tree, and of the wave
abbrev pub tree_seen : {L : Type 0} → NodePlace L → tree.LocalView
tree_seen p = tree_view_of p.config.graph (node_bound p.config.graph) (tree_of p.config) p.id

abbrev pub wave_seen : {L : Type 0} → NodePlace L → wave.LocalView
wave_seen p = view_of p.config.graph p.config.modulus (tree_of p.config) (wave_of p.config) p.id

-- what the rows of an event do at its node
abbrev pub rows_fired_at : {L : Type 0} → NodePlace L → Event → Result Fired StepRefusal
rows_fired_at p e =
    rows_fired p.config.graph (node_bound p.config.graph) p.config.modulus (tree_of p.config) (wave_of p.config) e

-- what a case of the application does at the node, with this choice of a neighbour
abbrev pub case_outcome_at : {L : Type 0} → App L → NodePlace L → ℕ → Option ℕ → Result L StepRefusal
case_outcome_at app p case with =
    case_outcome_of app p.config.graph (node_bound p.config.graph) (wave_of p.config) (local_of app p.config)
    p.id case with
