-- The rows of the tree table and of the wave table, as steps between whole networks: which are
-- enabled, what they leave, and the first refusal where an event of theirs is no step.
use Rattle.std.specs.Prelude.{◌≡◌, ◌≢◌, ℕ, Bool, true, false, ◌==◌, if◌then◌else◌, Option, Some, None}
use Rattle.topology.specs.Graph.{Graph, IsNode, AreLinked, Changes}
use Rattle.tree_layer.specs.declared.regs.TreeRegs.{TreeRegs}
use Rattle.tree_layer.specs.TreeRows.{IsFather, Claims, Follows, Adopts, claimed, followed, adopted}
use Rattle.wave_layer.specs.declared.regs.WaveRegs.{WaveRegs}
use Rattle.wave_layer.specs.declared.regs.Phase.TheVariants.{Normal, Initiate, Reset}
use Rattle.wave_layer.specs.Sessions.{next_session}
use Rattle.wave_layer.specs.WaveTable.{is_reset}
use Rattle.reset_model.specs.declared.event.Event.{Event}
use Rattle.reset_model.specs.declared.event.Event.TheVariants.{Claim, Follow, Adopt, Request, Relay, Open, Join, Finish}
use Rattle.reset_model.specs.declared.event.Event.TheVariants.{Mend, Act}
use Rattle.reset_model.specs.declared.step.Reply.{Reply}
use Rattle.reset_model.specs.declared.step.Reply.TheVariants.{Applied, Complete}
use Rattle.reset_model.specs.declared.step.StepRefusal.{StepRefusal}
use Rattle.reset_model.specs.declared.step.StepRefusal.TheVariants.{StrangeNode, StrangeNeighbour, NotEnabled}

-- the node at which the event happens, which alone it changes
abbrev pub event_node : Event → ℕ
event_node (Claim i) = i
event_node (Follow i) = i
event_node (Adopt i j) = i
event_node (Request i) = i
event_node (Relay i c) = i
event_node (Open i) = i
event_node (Join i) = i
event_node (Finish i) = i
event_node (Mend i) = i
event_node (Act i case with) = i

-- the other node that the event names
abbrev pub named_node : Event → Option ℕ
named_node (Claim i) = None
named_node (Follow i) = None
named_node (Adopt i j) = Some j
named_node (Request i) = None
named_node (Relay i c) = Some c
named_node (Open i) = None
named_node (Join i) = None
named_node (Finish i) = None
named_node (Mend i) = None
named_node (Act i case with) = with

-- the events of the tree layer
abbrev pub is_of_tree : Event → Bool
is_of_tree (Claim i) = true
is_of_tree (Follow i) = true
is_of_tree (Adopt i j) = true
is_of_tree (Request i) = false
is_of_tree (Relay i c) = false
is_of_tree (Open i) = false
is_of_tree (Join i) = false
is_of_tree (Finish i) = false
is_of_tree (Mend i) = false
is_of_tree (Act i case with) = false

-- the commands that a wave consists of
abbrev pub is_of_a_wave : Event → Bool
is_of_a_wave (Claim i) = false
is_of_a_wave (Follow i) = false
is_of_a_wave (Adopt i j) = false
is_of_a_wave (Request i) = true
is_of_a_wave (Relay i c) = true
is_of_a_wave (Open i) = true
is_of_a_wave (Join i) = true
is_of_a_wave (Finish i) = true
is_of_a_wave (Mend i) = false
is_of_a_wave (Act i case with) = false

-- the events of the application
abbrev pub is_act : Event → Bool
is_act (Claim i) = false
is_act (Follow i) = false
is_act (Adopt i j) = false
is_act (Request i) = false
is_act (Relay i c) = false
is_act (Open i) = false
is_act (Join i) = false
is_act (Finish i) = false
is_act (Mend i) = false
is_act (Act i case with) = true

abbrev pub reset_at : (ℕ → WaveRegs) → ℕ → Bool
reset_at w i = is_reset (w i).phase

-- rows 4 and 5: the father is reset in the next session, where sessions are counted modulo m
pub data Joins (g : Graph) (m : ℕ) (t : ℕ → TreeRegs) (w : ℕ → WaveRegs) (i : ℕ) : Type 0 where
  join_normal : (j : ℕ) → IsFather g t i j → reset_at w j ≡ true → (w i).phase ≡ Normal
      → (w j).session ≡ next_session m (w i).session → Joins g m t w i
  join_asked : (j : ℕ) → IsFather g t i j → reset_at w j ≡ true → (w i).phase ≡ Initiate
      → (w j).session ≡ next_session m (w i).session → Joins g m t w i

-- rows 6 and 7: the node is reset, and each child has its session and is not
pub record Finishes (g : Graph) (t : ℕ → TreeRegs) (w : ℕ → WaveRegs) (i : ℕ) : Type 0 where
  pub reset : (w i).phase ≡ Reset
  pub children : (c : ℕ) → IsFather g t c i → (reset_at w c ≡ false) × ((w c).session ≡ (w i).session)

-- rows 8 to 11: the registers of the node and of its father contradict the wave
pub data Mends (g : Graph) (m : ℕ) (t : ℕ → TreeRegs) (w : ℕ → WaveRegs) (i : ℕ) : Type 0 where
  mend_reset : (j : ℕ) → IsFather g t i j → reset_at w j ≡ false → reset_at w i ≡ true → Mends g m t w i
  mend_number : (j : ℕ) → IsFather g t i j → reset_at w j ≡ false → reset_at w i ≡ false → (w i).session ≢ (w j).session
      → Mends g m t w i
  mend_both : (j : ℕ) → IsFather g t i j → reset_at w j ≡ true → reset_at w i ≡ true → (w i).session ≢ (w j).session
      → Mends g m t w i
  mend_late : (j : ℕ) → IsFather g t i j → reset_at w j ≡ true → reset_at w i ≡ false → (w j).session ≢ (w i).session
      → (w j).session ≢ next_session m (w i).session → Mends g m t w i

-- the guard of a row of the event holds, where K bounds the distances and sessions are counted modulo m; an action
-- has no rows
abbrev pub IsEnabled : Graph → ℕ → ℕ → (ℕ → TreeRegs) → (ℕ → WaveRegs) → Event → Type 0
IsEnabled g K m t w (Claim i) = Claims g K t i
IsEnabled g K m t w (Follow i) = Follows g K t i
IsEnabled g K m t w (Adopt i j) = Adopts g K t i j
IsEnabled g K m t w (Request i) = (w i).phase ≡ Normal
IsEnabled g K m t w (Relay i c) = ((w i).phase ≡ Normal) × IsFather g t c i × ((w c).phase ≡ Initiate)
IsEnabled g K m t w (Open i) = ((t i).father ≡ i) × ((w i).phase ≡ Initiate)
IsEnabled g K m t w (Join i) = Joins g m t w i
IsEnabled g K m t w (Finish i) = Finishes g t w i
IsEnabled g K m t w (Mend i) = Mends g m t w i
IsEnabled g K m t w (Act i case with) = ⊥

-- what the event leaves in the tree registers of its node
abbrev pub tree_effect : ℕ → (ℕ → TreeRegs) → Event → TreeRegs
tree_effect K t (Claim i) = claimed i
tree_effect K t (Follow i) = followed K (t i).father (t (t i).father)
tree_effect K t (Adopt i j) = adopted j (t j)
tree_effect K t e = t (event_node e)

-- what it leaves in the wave registers of its node
abbrev pub wave_effect : ℕ → (ℕ → TreeRegs) → (ℕ → WaveRegs) → Event → WaveRegs
wave_effect m t w (Request i) = record { phase = Initiate; session = (w i).session }
wave_effect m t w (Relay i c) = record { phase = Initiate; session = (w i).session }
wave_effect m t w (Open i) = record { phase = Reset; session = next_session m (w i).session }
wave_effect m t w (Join i) = record { phase = Reset; session = (w (t i).father).session }
wave_effect m t w (Finish i) = record { phase = Normal; session = (w i).session }
wave_effect m t w (Mend i) = w (t i).father
wave_effect m t w e = w (event_node e)

-- a reset is complete where a node that is its own father finishes
abbrev pub reply_of : (ℕ → TreeRegs) → (ℕ → WaveRegs) → Event → Reply
reply_of t w (Claim i) = Applied
reply_of t w (Follow i) = Applied
reply_of t w (Adopt i j) = Applied
reply_of t w (Request i) = Applied
reply_of t w (Relay i c) = Applied
reply_of t w (Open i) = Applied
reply_of t w (Join i) = Applied
reply_of t w (Finish i) = if (t i).father == i then Complete (w i).session else Applied
reply_of t w (Mend i) = Applied
reply_of t w (Act i case with) = Applied

-- the event names nodes of the graph: its own, and where it names another, a neighbour of it
pub record IsNamed (g : Graph) (e : Event) : Type 0 where
  pub node : IsNode g (event_node e)
  pub neighbour : (j : ℕ) → named_node e ≡ Some j → AreLinked g (event_node e) j

-- the event takes the tree registers t and the wave registers w to t' and w'
pub record RegsStep (g : Graph) (K m : ℕ) (t : ℕ → TreeRegs) (w : ℕ → WaveRegs) (e : Event) (t' : ℕ → TreeRegs)
    (w' : ℕ → WaveRegs) : Type 0 where
  pub node : IsNode g (event_node e)
  pub enabled : IsEnabled g K m t w e
  pub trees : Changes g t (event_node e) (tree_effect K t e) t'
  pub waves : Changes g w (event_node e) (wave_effect m t w e) w'

-- why an event of the two tables isn't a step: the first that applies, in this order
pub data RowRefused (g : Graph) (K m : ℕ) (t : ℕ → TreeRegs) (w : ℕ → WaveRegs) (e : Event) : StepRefusal → Type 0 where
  strange_node : (IsNode g (event_node e) → ⊥) → RowRefused g K m t w e StrangeNode
  strange_neighbour : (j : ℕ) → IsNode g (event_node e) → named_node e ≡ Some j → (AreLinked g (event_node e) j → ⊥)
      → RowRefused g K m t w e StrangeNeighbour
  not_enabled : IsNamed g e → (IsEnabled g K m t w e → ⊥) → RowRefused g K m t w e NotEnabled
