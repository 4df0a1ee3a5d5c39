-- A configuration: a graph, and the registers and the local states of its nodes as maps from ids.
use Rattle.std.specs.Prelude.{◌≡◌, ℕ, ◌==◌, if◌then◌else◌, List, [], ◌∷◌, length, map}
use Rattle.action_tables.specs.Modulus.{IsModulus}
use Rattle.app_interface.specs.Application.{App}
use Rattle.topology.specs.Graph.{Graph}
use Rattle.tree_layer.specs.declared.regs.TreeRegs.{TreeRegs}
use Rattle.wave_layer.specs.declared.regs.WaveRegs.{WaveRegs}
use Rattle.wave_layer.specs.declared.regs.Phase.TheVariants.{Normal}

-- the value of an id, where the values stand in the order of the ids, and d elsewhere
abbrev pub value_at : {X : Type 0} → X → List ℕ → List X → ℕ → X
value_at d [] xs i = d
value_at d (k ∷ ks) [] i = d
value_at d (k ∷ ks) (x ∷ xs) i = if k == i then x else value_at d ks xs i

-- the values with that of an id replaced
abbrev pub put_at : {X : Type 0} → List ℕ → List X → ℕ → X → List X
put_at [] xs i y = xs
put_at (k ∷ ks) [] i y = []
put_at (k ∷ ks) (x ∷ xs) i y = if k == i then y ∷ xs else x ∷ put_at ks xs i y

-- the registers and the local states stand in the order of the graph's ids; sessions are counted modulo its modulus
pub record Configuration (L : Type 0) : Type 0 where
  pub graph : Graph
  pub modulus : ℕ
  pub trees : List TreeRegs
  pub waves : List WaveRegs
  pub locals : List L

-- the configuration of these parts
abbrev pub configuration : {L : Type 0} → Graph → ℕ → List TreeRegs → List WaveRegs → List L → Configuration L
configuration g m trees waves locals =
    record { graph = g; modulus = m; trees = trees; waves = waves; locals = locals }

-- each node has its registers and its local state, and the modulus is one
pub record IsShaped {L : Type 0} (c : Configuration L) : Type 0 where
  pub modulus : IsModulus c.modulus
  pub trees : length c.trees ≡ length c.graph.ids
  pub waves : length c.waves ≡ length c.graph.ids
  pub locals : length c.locals ≡ length c.graph.ids

-- the tree registers of the ids of a graph, from a list in their order
abbrev pub tree_map : Graph → List TreeRegs → ℕ → TreeRegs
tree_map g trees = value_at (record { root = 0; father = 0; dist = 0 }) g.ids trees

-- the wave registers of the ids of a graph, from a list in their order
abbrev pub wave_map : Graph → List WaveRegs → ℕ → WaveRegs
wave_map g waves = value_at (record { phase = Normal; session = 0 }) g.ids waves

-- the start states of the ids of a graph, in their order
abbrev pub start_list : {L : Type 0} → App L → Graph → List L
start_list app g = map (app.start g) g.ids

-- the local states of the ids of a graph, from a list in their order
abbrev pub local_map : {L : Type 0} → App L → Graph → List L → ℕ → L
local_map app g locals i = value_at (app.start g i) g.ids locals i

abbrev pub tree_of : {L : Type 0} → Configuration L → ℕ → TreeRegs
tree_of c = tree_map c.graph c.trees

abbrev pub wave_of : {L : Type 0} → Configuration L → ℕ → WaveRegs
wave_of c = wave_map c.graph c.waves

abbrev pub local_of : {L : Type 0} → App L → Configuration L → ℕ → L
local_of app c = local_map app c.graph c.locals

-- the configuration with other tree registers of a node
abbrev pub with_tree : {L : Type 0} → Configuration L → ℕ → TreeRegs → Configuration L
with_tree c i regs =
    configuration c.graph c.modulus (put_at c.graph.ids c.trees i regs) c.waves c.locals

-- the configuration with other wave registers of a node
abbrev pub with_wave : {L : Type 0} → Configuration L → ℕ → WaveRegs → Configuration L
with_wave c i regs =
    configuration c.graph c.modulus c.trees (put_at c.graph.ids c.waves i regs) c.locals

-- the configuration with another local state of a node
abbrev pub with_local : {L : Type 0} → Configuration L → ℕ → L → Configuration L
with_local c i local =
    configuration c.graph c.modulus c.trees c.waves (put_at c.graph.ids c.locals i local)

-- the configuration with other local states
abbrev pub with_locals : {L : Type 0} → Configuration L → List L → Configuration L
with_locals c locals = configuration c.graph c.modulus c.trees c.waves locals
