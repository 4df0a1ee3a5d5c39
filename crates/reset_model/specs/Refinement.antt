-- The abstract machine, which has neither tree nor waves nor sessions, and what a run of the reset
-- machine is on it.
use Rattle.std.specs.Prelude.{ℕ, Bool, ◌==◌, if◌then◌else◌, List, [], ◌∷◌, Option}
use Rattle.app_interface.specs.Application.{App, Action}
use Rattle.app_interface.specs.Invariant.{SameAtNodes}
use Rattle.topology.specs.Components.{leader, reaches}
use Rattle.topology.specs.Graph.{Graph}
use Rattle.wave_layer.specs.declared.regs.WaveRegs.{WaveRegs}
use Rattle.reset_model.specs.declared.event.Event.{Event}
use Rattle.reset_model.specs.declared.event.Event.TheVariants.{Open, Act}
use Rattle.reset_model.specs.Configuration.{Configuration, wave_of, local_of}

-- ---- the abstract machine, whose state is the local states of the nodes

-- all nodes of i's component restart at once, or a node takes a case, with this choice of a neighbour
pub data AbstractStep : Type 0 where
  Reset : (i : ℕ) → AbstractStep
  Do : (i case : ℕ) (with : Option ℕ) → AbstractStep

-- the local states after all nodes of i's component have restarted
abbrev pub reset_of : {L : Type 0} → App L → Graph → ℕ → (ℕ → L) → ℕ → L
reset_of app g i v j = if reaches g i j then app.start g j else v j

-- the step takes the local states v to v', where K bounds the distances
abbrev pub IsAbstract : {L : Type 0} → App L → Graph → ℕ → AbstractStep → (ℕ → L) → (ℕ → L) → Type 0
IsAbstract app g K (Reset i) v v' = SameAtNodes g (reset_of app g i v) v'
IsAbstract app g K (Do i case with) v v' = Action app g K i case with v v'

-- the steps take v to v', in turn
abbrev pub IsAbstractRun : {L : Type 0} → App L → Graph → ℕ → List AbstractStep → (ℕ → L) → (ℕ → L) → Type 0
IsAbstractRun app g K [] v v' = SameAtNodes g v v'
IsAbstractRun {L} app g K (s ∷ ss) v v' = (u : ℕ → L) × IsAbstract app g K s v u × IsAbstractRun app g K ss u v'

-- ---- what a configuration is on it

-- whether a node has joined: it has its leader's session
abbrev pub has_joined : Graph → (ℕ → WaveRegs) → ℕ → Bool
has_joined g w i = (w i).session == (w (leader g i)).session

-- the local states of the nodes that have joined, and the start states of the others, who are yet
-- to restart
abbrev pub abstract_of : {L : Type 0} → App L → Configuration L → ℕ → L
abstract_of app c i = if has_joined c.graph (wave_of c) i then local_of app c i else app.start c.graph i

-- ---- what events are on it

-- the shadow of an event that is applied in c: to open a session is to reset all nodes of the component at once, an
-- action of a node that has joined is itself, and any other event is nothing
abbrev pub shadow_of : {L : Type 0} → Configuration L → Event → List AbstractStep
shadow_of c (Open i) = Reset i ∷ []
shadow_of c (Act i case with) = if has_joined c.graph (wave_of c) i then Do i case with ∷ [] else []
shadow_of c _ = []
