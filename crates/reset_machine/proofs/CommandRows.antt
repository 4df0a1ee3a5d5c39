-- What the rows of a command do, one after the other, is what the command does.
use Rattle.std.proofs.Common.{◌≡◌, ℕ, [], ◌∷◌, true, false, cond, Result, Ok, Err, refl, sym, ap, subst, ◌∙◌}
use Rattle.topology.specs.Graph.{IsNode, is_node, node_bound}
use Rattle.wave_layer.specs.declared.regs.WaveMove.{WaveMove}
use Rattle.wave_layer.specs.declared.regs.WaveRefusal.{WaveRefusal}
use Rattle.wave_layer.specs.declared.regs.WaveRefusal.TheVariants.{NoSuchCase, NotChild, NotEnabled}
use Rattle.wave_layer.specs.WaveTable as wave
use Rattle.reset_model.specs.declared.event.Event.{Event}
use Rattle.reset_model.specs.declared.plan.Seen.TheVariants.{Tree, Wave}
use Rattle.reset_model.specs.declared.step.StepRefusal.{StepRefusal}
use Rattle.reset_model.specs.declared.step.StepRefusal.TheVariants as refused
use Rattle.reset_model.specs.Configuration.{Configuration, tree_of, wave_of}
use Rattle.reset_model.specs.LocalSteps.{cases_of, event_fired, fired_wave, first_fired, is_neighbour, or_next}
use Rattle.reset_model.specs.LocalSteps.{tree_view_of, view_of}
use Rattle.reset_model.specs.Steps.{event_node, is_of_tree, named_node}
use Rattle.reset_model.proofs.NodePositions.{no_node}
use Rattle.reset_model.proofs.Planned.{event_fired-named, event_fired-strange_node}
use Rattle.reset_machine.specs.Commands.{IsFired}

-- a command of one row
pub one_row : (r : Result WaveMove WaveRefusal) → or_next (fired_wave r) (Err refused.NotEnabled) ≡ fired_wave r
one_row (Ok move) = refl
one_row (Err NoSuchCase) = refl
one_row (Err NotChild) = refl
one_row (Err NotEnabled) = refl

-- a command of two rows
pub two_rows : (r r' : Result WaveMove WaveRefusal)
    → or_next (fired_wave r) (or_next (fired_wave r') (Err refused.NotEnabled)) ≡ fired_wave (wave.or_next r r')
two_rows (Ok move) r' = refl
two_rows (Err NoSuchCase) r' = one_row r'
two_rows (Err NotChild) r' = one_row r'
two_rows (Err NotEnabled) r' = one_row r'

-- what an event of the wave does at its node, where it names no stranger
pub fired_here : {L : Type 0} (c : Configuration L) (e : Event) (id : ℕ) (fired : Result WaveMove WaveRefusal)
    → is_of_tree e ≡ false → event_node e ≡ id → is_node c.graph id ≡ true
    → is_neighbour c.graph id (named_node e) ≡ true
    → first_fired (Wave (view_of c.graph c.modulus (tree_of c) (wave_of c) id)) (named_node e) (cases_of e)
    ≡ fired_wave fired
    → event_fired c.graph (node_bound c.graph) c.modulus (tree_of c) (wave_of c) e ≡ fired_wave fired
fired_here c e id fired layer here node near rows =
    let g = c.graph in
    let m = c.modulus in
    let t = tree_of c in
    let w = wave_of c in
    event_fired-named g (node_bound g) m t w e (ap (is_node g) here ∙ node)
    (ap (λ i. is_neighbour g i (named_node e)) here ∙ near)
    ∙ ap (λ b. first_fired
    (cond b (Tree (tree_view_of g (node_bound g) t (event_node e))) (Wave (view_of g m t w (event_node e))))
    (named_node e) (cases_of e)) layer
    ∙ ap (λ i. first_fired (Wave (view_of g m t w i)) (named_node e) (cases_of e)) here
    ∙ rows

-- at a node that isn't there it does nothing
pub strange_here : {L : Type 0} (c : Configuration L) (e : Event) → (IsNode c.graph (event_node e) → ⊥)
    → IsFired c e (Err refused.StrangeNode)
strange_here c e none =
    event_fired-strange_node c.graph (node_bound c.graph) c.modulus (tree_of c) (wave_of c) e
    (no_node c.graph.nodes (event_node e) none)

-- what an event of one row does, and one of two, of whose rows the command does this
module _ {L : Type 0} (c at : Configuration L) (e : Event) (id : ℕ) (fired : Result WaveMove WaveRefusal)
    (does : Result (ℕ × WaveMove) StepRefusal) (same : at ≡ c)
    (here : is_of_tree e ≡ false → event_node e ≡ id → is_neighbour at.graph id (named_node e) ≡ true
    → first_fired (Wave (view_of at.graph at.modulus (tree_of at) (wave_of at) id)) (named_node e) (cases_of e)
    ≡ fired_wave fired
    → IsFired at e does) where
  abbrev seen : wave.LocalView
  seen = view_of at.graph at.modulus (tree_of at) (wave_of at) id

  pub of_one : (n : ℕ) → cases_of e ≡ n ∷ [] → is_of_tree e ≡ false → event_node e ≡ id
      → is_neighbour at.graph id (named_node e) ≡ true → fired ≡ wave.wave_fired seen n (named_node e) → IsFired c e does
  of_one n cases layer node near is =
      subst (λ (k : Configuration L). IsFired k e does) same
      (here layer node near
      (ap (first_fired (Wave seen) (named_node e)) cases ∙ one_row (wave.wave_fired seen n (named_node e))
      ∙ ap fired_wave (sym is)))

  pub of_two : (n m : ℕ) → cases_of e ≡ n ∷ m ∷ [] → is_of_tree e ≡ false → event_node e ≡ id
      → is_neighbour at.graph id (named_node e) ≡ true
      → fired ≡ wave.or_next (wave.wave_fired seen n (named_node e)) (wave.wave_fired seen m (named_node e))
      → IsFired c e does
  of_two n m cases layer node near is =
      subst (λ (k : Configuration L). IsFired k e does) same
      (here layer node near
      (ap (first_fired (Wave seen) (named_node e)) cases
      ∙ two_rows (wave.wave_fired seen n (named_node e)) (wave.wave_fired seen m (named_node e))
      ∙ ap fired_wave (sym is)))
