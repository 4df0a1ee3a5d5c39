-- What the five commands of a wave do at their nodes.
use Rattle.std.specs.Prelude.{◌≡◌, ℕ, ◌==◌, Some, Result, Ok, Err, MatchResult, position}
use Rattle.topology.specs.Graph.{node_bound}
use Rattle.wave_layer.specs.declared.regs.WaveMove.{WaveMove}
use Rattle.reset_model.specs.declared.event.Event.{Event}
use Rattle.reset_model.specs.declared.plan.Fired.TheVariants.{Wave}
use Rattle.reset_model.specs.declared.step.StepRefusal.{StepRefusal}
use Rattle.reset_model.specs.Configuration.{Configuration, tree_of, wave_of}
use Rattle.reset_model.specs.LocalSteps.{event_fired}
use Rattle.reset_model.specs.Steps.{event_node}

-- the index of the event's node and what a row of the wave table does there, or the first refusal
abbrev pub IsFired : {L : Type 0} → Configuration L → Event → Result (ℕ × WaveMove) StepRefusal → Type 0
IsFired c e fired =
    let plan = event_fired c.graph (node_bound c.graph) c.modulus (tree_of c) (wave_of c) e in
    MatchResult fired
    (λ p. (position (λ i. i == event_node e) c.graph.ids ≡ Some p.0) × (plan ≡ Ok (Wave p.1)))
    (λ f. plan ≡ Err f)
