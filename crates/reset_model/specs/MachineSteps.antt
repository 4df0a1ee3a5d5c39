-- The steps of a configuration: those of the two tables, and the actions of the application.
use Rattle.std.specs.Prelude.{◌≡◌, ℕ, false, Option}
use Rattle.app_interface.specs.Application.{App}
use Rattle.topology.specs.Graph.{Graph, Changes, node_bound}
use Rattle.reset_model.specs.declared.event.Event.{Event}
use Rattle.reset_model.specs.declared.event.Event.TheVariants.{Open, Join}
use Rattle.reset_model.specs.declared.event.Event.TheVariants.{Act}
use Rattle.reset_model.specs.declared.step.StepRefusal.{StepRefusal}
use Rattle.reset_model.specs.Actions.{ActStep, ActRefused}
use Rattle.reset_model.specs.Configuration.{Configuration, tree_of, wave_of, local_of}
use Rattle.reset_model.specs.Steps.{event_node, is_act, RegsStep, RowRefused}

-- what an event of the two tables leaves in the local state of its node: to open a session and to
-- join one is to start anew
abbrev pub local_effect : {L : Type 0} → App L → Graph → (ℕ → L) → Event → L
local_effect app g l (Open i) = app.start g i
local_effect app g l (Join i) = app.start g i
local_effect app g l e = l (event_node e)

-- an event of the two tables takes the configuration c to c'
pub record RowStep {L : Type 0} (app : App L) (c : Configuration L) (e : Event) (c' : Configuration L) : Type 0 where
  pub graph : c'.graph ≡ c.graph
  pub modulus : c'.modulus ≡ c.modulus
  pub regs : RegsStep c.graph (node_bound c.graph) c.modulus (tree_of c) (wave_of c) e (tree_of c') (wave_of c')
  pub locals : Changes c.graph (local_of app c) (event_node e) (local_effect app c.graph (local_of app c) e)
      (local_of app c')

-- an action takes the configuration c to c': no registers change
pub record IsActStep {L : Type 0} (app : App L) (c : Configuration L) (i case : ℕ) (with : Option ℕ)
    (c' : Configuration L) : Type 0 where
  pub graph : c'.graph ≡ c.graph
  pub modulus : c'.modulus ≡ c.modulus
  pub trees : c'.trees ≡ c.trees
  pub waves : c'.waves ≡ c.waves
  pub locals : ActStep app c.graph (node_bound c.graph) (wave_of c) i case with (local_of app c) (local_of app c')

-- the event takes the configuration c to c'
pub data IsStep {L : Type 0} (app : App L) (c : Configuration L) (e : Event) (c' : Configuration L) : Type 0 where
  row_step : RowStep app c e c' → IsStep app c e c'
  act_step : (i case : ℕ) (with : Option ℕ) → e ≡ Act i case with → IsActStep app c i case with c' → IsStep app c e c'

-- the event isn't a step, for this reason, the first that applies
pub data IsRefused {L : Type 0} (app : App L) (c : Configuration L) (e : Event) (f : StepRefusal) : Type 0 where
  row_refused : is_act e ≡ false → RowRefused c.graph (node_bound c.graph) c.modulus (tree_of c) (wave_of c) e f
      → IsRefused app c e f
  act_refused : (i case : ℕ) (with : Option ℕ) → e ≡ Act i case with
      → ActRefused app c.graph (node_bound c.graph) (wave_of c) (local_of app c) i case with f → IsRefused app c e f
