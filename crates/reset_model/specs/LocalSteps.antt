-- The same steps as one node sees them: the rows of an event are tried on its local view.
use Rattle.std.specs.Prelude.{ℕ, Bool, true, not, ◌==◌, if◌then◌else◌, List, [], ◌∷◌, Option, Some, None, Result, Ok}
use Rattle.std.specs.Prelude.{Err, map, filter}
use Rattle.topology.specs.Graph.{Graph, are_linked, neighbours_of, is_node}
use Rattle.tree_layer.specs.declared.regs.TreeRegs.{TreeRegs}
use Rattle.tree_layer.specs.declared.regs.TreeRefusal.{TreeRefusal}
use Rattle.tree_layer.specs.declared.regs.TreeRefusal.TheVariants as tree_refusal
use Rattle.tree_layer.specs.TreeTable.{tree_fired}
use Rattle.tree_layer.specs.TreeTable as tree
use Rattle.wave_layer.specs.declared.regs.WaveRegs.{WaveRegs}
use Rattle.wave_layer.specs.declared.regs.FatherSeen.{FatherSeen}
use Rattle.wave_layer.specs.declared.regs.FatherSeen.TheVariants.{Itself, Lost, Is}
use Rattle.wave_layer.specs.declared.regs.WaveMove.{WaveMove}
use Rattle.wave_layer.specs.declared.regs.WaveRefusal.{WaveRefusal}
use Rattle.wave_layer.specs.declared.regs.WaveRefusal.TheVariants as wave_refusal
use Rattle.wave_layer.specs.WaveTable.{LocalView, wave_fired}
use Rattle.reset_model.specs.declared.event.Event.{Event}
use Rattle.reset_model.specs.declared.event.Event.TheVariants.{Claim, Follow, Adopt, Request, Relay, Open, Join, Finish}
use Rattle.reset_model.specs.declared.event.Event.TheVariants.{Mend, Act}
use Rattle.reset_model.specs.declared.plan.Fired.{Fired}
use Rattle.reset_model.specs.declared.plan.Fired.TheVariants as fired
use Rattle.reset_model.specs.declared.plan.Seen.{Seen}
use Rattle.reset_model.specs.declared.plan.Seen.TheVariants.{Tree, Wave}
use Rattle.reset_model.specs.declared.step.StepRefusal.{StepRefusal}
use Rattle.reset_model.specs.declared.step.StepRefusal.TheVariants.{StrangeNode, StrangeNeighbour, NoSuchCase}
use Rattle.reset_model.specs.declared.step.StepRefusal.TheVariants.{WantsNeighbour, TakesNoNeighbour, Disagrees}
use Rattle.reset_model.specs.declared.step.StepRefusal.TheVariants.{NotEnabled, NoMemory}
use Rattle.reset_model.specs.Steps.{event_node, named_node, is_of_tree}

-- what i sees of the tree, where K bounds the distances
abbrev pub tree_view_of : Graph → ℕ → (ℕ → TreeRegs) → ℕ → tree.LocalView
tree_view_of g K t i = record { id = i; bound = K; own = t i; near = map (λ j. (j, t j)) (neighbours_of g i) }

-- what i's father register names
abbrev pub father_seen : Graph → (ℕ → TreeRegs) → (ℕ → WaveRegs) → ℕ → FatherSeen
father_seen g t w i =
    if (t i).father == i then Itself else (if are_linked g i (t i).father then Is (w (t i).father) else Lost)

-- the neighbours whose father register names i
abbrev pub children_of : Graph → (ℕ → TreeRegs) → ℕ → List ℕ
children_of g t i = filter (λ c. (t c).father == i) (neighbours_of g i)

-- what i sees of the wave, where sessions are counted modulo m
abbrev pub view_of : Graph → ℕ → (ℕ → TreeRegs) → (ℕ → WaveRegs) → ℕ → LocalView
view_of g m t w i = record {
  own = w i;
  father = father_seen g t w i;
  children = map (λ c. (c, w c)) (children_of g t i);
  modulus = m;
}

-- what the event's node sees of the event's layer
abbrev pub seen_of : Graph → ℕ → ℕ → (ℕ → TreeRegs) → (ℕ → WaveRegs) → Event → Seen
seen_of g K m t w e =
    if is_of_tree e then Tree (tree_view_of g K t (event_node e)) else Wave (view_of g m t w (event_node e))

-- the rows of an event in its layer's table
abbrev pub cases_of : Event → List ℕ
cases_of (Claim i) = 1 ∷ 2 ∷ 3 ∷ 4 ∷ []
cases_of (Follow i) = 5 ∷ 6 ∷ []
cases_of (Adopt i j) = 7 ∷ 8 ∷ []
cases_of (Request i) = 1 ∷ []
cases_of (Relay i c) = 2 ∷ []
cases_of (Open i) = 3 ∷ []
cases_of (Join i) = 4 ∷ 5 ∷ []
cases_of (Finish i) = 6 ∷ 7 ∷ []
cases_of (Mend i) = 8 ∷ 9 ∷ 10 ∷ 11 ∷ []
cases_of (Act i case with) = []

-- what a row of the tree table fired
abbrev pub fired_tree : Result TreeRegs TreeRefusal → Result Fired StepRefusal
fired_tree (Ok regs) = Ok (fired.Tree regs)
fired_tree (Err tree_refusal.NoSuchCase) = Err NotEnabled
fired_tree (Err tree_refusal.StrangeNeighbour) = Err StrangeNeighbour
fired_tree (Err tree_refusal.NotEnabled) = Err NotEnabled

-- what a row of the wave table fired. A neighbour that is no child can't have asked
abbrev pub fired_wave : Result WaveMove WaveRefusal → Result Fired StepRefusal
fired_wave (Ok move) = Ok (fired.Wave move)
fired_wave (Err wave_refusal.NoSuchCase) = Err NotEnabled
fired_wave (Err wave_refusal.NotChild) = Err NotEnabled
fired_wave (Err wave_refusal.NotEnabled) = Err NotEnabled

-- row n of the layer's table
abbrev pub fired_row : Seen → Option ℕ → ℕ → Result Fired StepRefusal
fired_row (Tree v) named n = fired_tree (tree_fired v n named)
fired_row (Wave v) named n = fired_wave (wave_fired v n named)

-- what was fired, unless no guard held
abbrev pub or_next : Result Fired StepRefusal → Result Fired StepRefusal → Result Fired StepRefusal
or_next (Ok does) next = Ok does
or_next (Err StrangeNode) next = Err StrangeNode
or_next (Err StrangeNeighbour) next = Err StrangeNeighbour
or_next (Err NoSuchCase) next = Err NoSuchCase
or_next (Err WantsNeighbour) next = Err WantsNeighbour
or_next (Err TakesNoNeighbour) next = Err TakesNoNeighbour
or_next (Err (Disagrees j)) next = Err (Disagrees j)
or_next (Err NotEnabled) next = next
or_next (Err NoMemory) next = Err NoMemory

-- the first of these rows whose guard holds
abbrev pub first_fired : Seen → Option ℕ → List ℕ → Result Fired StepRefusal
first_fired v named [] = Err NotEnabled
first_fired v named (n ∷ ns) = or_next (fired_row v named n) (first_fired v named ns)

-- the named node, if there is one, is a neighbour of i
abbrev pub is_neighbour : Graph → ℕ → Option ℕ → Bool
is_neighbour g i None = true
is_neighbour g i (Some j) = are_linked g i j

-- what the rows of the event do at its node
abbrev pub rows_fired : Graph → ℕ → ℕ → (ℕ → TreeRegs) → (ℕ → WaveRegs) → Event → Result Fired StepRefusal
rows_fired g K m t w e = first_fired (seen_of g K m t w e) (named_node e) (cases_of e)

-- what the event's node does, or the first refusal
abbrev pub event_fired : Graph → ℕ → ℕ → (ℕ → TreeRegs) → (ℕ → WaveRegs) → Event → Result Fired StepRefusal
event_fired g K m t w e =
    if not (is_node g (event_node e)) then Err StrangeNode
    else (if not (is_neighbour g (event_node e) (named_node e)) then Err StrangeNeighbour
    else rows_fired g K m t w e)
