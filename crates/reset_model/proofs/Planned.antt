-- The three ends of planning an event: a strange node, a strange neighbour, and what the rows do.
use Rattle.std.proofs.Common.{◌≡◌, ◌≢◌, ℕ, not, true, false, cond, Result, Ok, Err, MatchResult, List, Option}
use Rattle.std.proofs.Common.{map, subst, sym, ap, ◌∙◌}
use Rattle.topology.specs.Graph.{Graph, IsNode, neighbours_of, node_bound, is_node}
use Rattle.tree_layer.specs.declared.regs.TreeRegs.{TreeRegs}
use Rattle.wave_layer.specs.declared.regs.WaveRegs.{WaveRegs}
use Rattle.wave_layer.specs.declared.regs.FatherSeen.{FatherSeen}
use Rattle.wave_layer.specs.WaveTable.{LocalView}
use Rattle.reset_model.specs.declared.event.Event.{Event}
use Rattle.reset_model.specs.declared.step.StepRefusal.{StepRefusal}
use Rattle.reset_model.specs.declared.step.StepRefusal.TheVariants.{StrangeNode, StrangeNeighbour, NoMemory}
use Rattle.reset_model.specs.declared.plan.Fired.{Fired}
use Rattle.reset_model.specs.Configuration.{Configuration, tree_of, wave_of}
use Rattle.reset_model.specs.Steps.{event_node, named_node}
use Rattle.tree_layer.specs.TreeTable as tree
use Rattle.reset_model.specs.LocalSteps.{event_fired, rows_fired, is_neighbour, father_seen, children_of, view_of}
use Rattle.reset_model.specs.LocalSteps.{tree_view_of}
use Rattle.reset_model.proofs.NodePositions.{a_node}

module _ (g : Graph) (K m : ℕ) (t : ℕ → TreeRegs) (w : ℕ → WaveRegs) (e : Event) where
  pub event_fired-strange_node : is_node g (event_node e) ≡ false
      → event_fired g K m t w e ≡ Err StrangeNode
  event_fired-strange_node none =
      ap (λ b. cond (not b) (Err StrangeNode)
      (cond (not (is_neighbour g (event_node e) (named_node e))) (Err StrangeNeighbour) (rows_fired g K m t w e))) none

  pub event_fired-strange_neighbour : is_node g (event_node e) ≡ true
      → is_neighbour g (event_node e) (named_node e) ≡ false → event_fired g K m t w e ≡ Err StrangeNeighbour
  event_fired-strange_neighbour node stranger =
      ap (λ b. cond (not b) (Err StrangeNode)
      (cond (not (is_neighbour g (event_node e) (named_node e))) (Err StrangeNeighbour) (rows_fired g K m t w e))) node
      ∙ ap (λ b. cond (not b) (Err StrangeNeighbour) (rows_fired g K m t w e)) stranger

  pub event_fired-named : is_node g (event_node e) ≡ true
      → is_neighbour g (event_node e) (named_node e) ≡ true → event_fired g K m t w e ≡ rows_fired g K m t w e
  event_fired-named node neighbour =
      ap (λ b. cond (not b) (Err StrangeNode)
      (cond (not (is_neighbour g (event_node e) (named_node e))) (Err StrangeNeighbour) (rows_fired g K m t w e))) node
      ∙ ap (λ b. cond (not b) (Err StrangeNeighbour) (rows_fired g K m t w e)) neighbour

-- the plan of an event at its node, where the neighbour that it names is one: what its rows do there
pub event_fired_at : {L : Type 0} (c at : Configuration L) (e : Event) (id : ℕ) (named : Option ℕ) → at ≡ c
    → id ≡ event_node e → named ≡ named_node e
    → IsNode c.graph (event_node e) → is_neighbour at.graph id named ≡ true
    → event_fired c.graph (node_bound c.graph) c.modulus (tree_of c) (wave_of c) e
    ≡ rows_fired at.graph (node_bound at.graph) at.modulus (tree_of at) (wave_of at) e
event_fired_at {L = L} c at e id named same id_is named_is node near =
    event_fired-named c.graph (node_bound c.graph) c.modulus (tree_of c) (wave_of c) e (a_node c.graph.nodes (event_node e) node)
    (ap (is_neighbour c.graph (event_node e)) (sym named_is) ∙ ap (λ i. is_neighbour c.graph i named) (sym id_is)
    ∙ ap (λ (k : Configuration L). is_neighbour k.graph id named) (sym same) ∙ near)
    ∙ ap (λ (k : Configuration L). rows_fired k.graph (node_bound k.graph) k.modulus (tree_of k) (wave_of k) e) (sym same)

-- a view of these parts is what the node sees
pub view_of-parts : (g : Graph) (m : ℕ) (t : ℕ → TreeRegs) (w : ℕ → WaveRegs) (at id modulus : ℕ) (v : LocalView) (own : WaveRegs)
    (father : FatherSeen) (children : List (ℕ × WaveRegs)) → at ≡ id →
    v ≡ record { own = own; father = father; children = children; modulus = modulus } → modulus ≡ m → w at ≡ own → father ≡ father_seen g t w at
    → children ≡ map (λ c. (c, w c)) (children_of g t at) → view_of g m t w id ≡ v
view_of-parts g m t w at id modulus v own father children same is modulus_is own_is father_is children_is =
    let P : ℕ → Type 0 = λ k. view_of g m t w k ≡ v in
    let parts : view_of g m t w at ≡ v = cc in
    subst P same parts

-- what is told is exactly what is
pub exact_of : (r r' : Result Fired StepRefusal) → r ≡ r'
    → MatchResult r' (λ does. r ≡ Ok does) (λ f. f ≢ NoMemory → r ≡ Err f)
exact_of r (Ok does) is = is
exact_of r (Err f) is = λ _. is

-- a view of these parts is what the node sees of the tree
pub tree_view_of-parts : (g : Graph) (K : ℕ) (t : ℕ → TreeRegs) (id bound : ℕ) (v : tree.LocalView) (own : TreeRegs)
    (near : List (ℕ × TreeRegs)) → v ≡ record { id = id; bound = bound; own = own; near = near } →
    bound ≡ K → t id ≡ own → near ≡ map (λ j. (j, t j)) (neighbours_of g id) → v ≡ tree_view_of g K t id
tree_view_of-parts g K t id bound v own near is bound_is own_is near_is = cc
