-- The enabled rows and cases of a node, and the nodes that have something to do.
use Rattle.std.specs.Prelude.{ℕ, Bool, true, not, ◌&&◌, ◌||◌, ◌==◌, List, [], ◌∷◌, Option, Some, None, is_ok, map, filter}
use Rattle.std.specs.List.{list_any}
use Rattle.action_tables.specs.Numbers.{all_cases}
use Rattle.action_tables.specs.Table.{enabled_of}
use Rattle.app_interface.specs.Application.{App}
use Rattle.app_interface.specs.declared.reads.Reads.{Reads}
use Rattle.app_interface.specs.declared.reads.Reads.TheVariants.{Alone, Toward, One, All}
use Rattle.topology.specs.Graph.{Graph, is_node, neighbours_of, node_bound}
use Rattle.tree_layer.specs.TreeTable.{tree_table}
use Rattle.wave_layer.specs.WaveTable.{wave_table}
use Rattle.wave_layer.specs.declared.regs.WaveRegs.{WaveRegs}
use Rattle.reset_machine.specs.declared.enabled.Enabled.{Enabled}
use Rattle.reset_model.specs.Actions.{case_outcome_of}
use Rattle.reset_model.specs.Configuration.{Configuration, tree_of, wave_of, local_of}
use Rattle.reset_model.specs.LocalSteps.{tree_view_of, view_of}

-- among these rows and cases is one of the tree table, one of the wave table other than the request,
-- its row 1, or one of the application
abbrev pub has_work : List ℕ → List ℕ → List ℕ → Bool
has_work trees waves acts =
    list_any (λ n. true) trees || (list_any (λ n. not (n == 1)) waves || list_any (λ n. true) acts)

-- the numbers of the rows of the tree table that are enabled at i
abbrev pub enabled_trees : {L : Type 0} → Configuration L → ℕ → List ℕ
enabled_trees c i = let v = tree_view_of c.graph (node_bound c.graph) (tree_of c) i in enabled_of (tree_table v v.near)

-- the numbers of the rows of the wave table that are enabled at i
abbrev pub enabled_waves : {L : Type 0} → Configuration L → ℕ → List ℕ
enabled_waves c i = let v = view_of c.graph c.modulus (tree_of c) (wave_of c) i in enabled_of (wave_table v v.children)

-- the choices of a neighbour that fit what a case reads
abbrev pub arguments_of : Graph → ℕ → Option Reads → List (Option ℕ)
arguments_of g i None = []
arguments_of g i (Some Alone) = None ∷ []
arguments_of g i (Some Toward) = map Some (neighbours_of g i)
arguments_of g i (Some One) = map Some (neighbours_of g i)
arguments_of g i (Some All) = None ∷ []

-- the case is taken at i with some choice: no node that it reads disagrees, and it is enabled
abbrev pub is_taken : {L : Type 0} → App L → Graph → ℕ → (ℕ → WaveRegs) → (ℕ → L) → ℕ → ℕ → Bool
is_taken app g K w l i case =
    list_any (λ with. is_ok (case_outcome_of app g K w l i case with)) (arguments_of g i (app.reads case))

-- the numbers of the cases of the application that are enabled at i
abbrev pub enabled_acts : {L : Type 0} → App L → Configuration L → ℕ → List ℕ
enabled_acts app c i = filter (is_taken app c.graph (node_bound c.graph) (wave_of c) (local_of app c) i) all_cases

-- what is enabled at i, by table
abbrev pub enabled_rows : {L : Type 0} → App L → Configuration L → ℕ → Enabled
enabled_rows app c i = record { tree = enabled_trees c i; wave = enabled_waves c i; act = enabled_acts app c i }

-- i has something to do: more than to ask for a reset
abbrev pub has_work_at : {L : Type 0} → App L → Configuration L → ℕ → Bool
has_work_at app c i = has_work (enabled_trees c i) (enabled_waves c i) (enabled_acts app c i)

-- i is a node that has something to do
abbrev pub is_ready : {L : Type 0} → App L → Configuration L → ℕ → Bool
is_ready app c i = is_node c.graph i && has_work_at app c i

-- the ids of the nodes that have something to do, ascending
abbrev pub ready_of : {L : Type 0} → App L → Configuration L → List ℕ
ready_of app c = filter (is_ready app c) c.graph.ids
