-- From sound registers on the waves of a component end.
use Rattle.std.proofs.Common.{◌≡◌, ℕ, ◌+◌, ◌*◌, ◌≤◌, cond, ◌&&◌, List, [], ◌∷◌, refl, sym, ap, subst}
use Rattle.std.proofs.Common.{arith}
use Rattle.std.proofs.Math.Nat.{mul-add}
use Rattle.action_tables.specs.Modulus.{IsModulus}
use Rattle.app_interface.specs.Application.{App}
use Rattle.topology.specs.Components.{reaches}
use Rattle.topology.specs.Graph.{Graph, IsGraph, IsNode, node_bound}
use Rattle.reset_model.specs.declared.event.Event.{Event}
use Rattle.reset_model.specs.Configuration.{Configuration, tree_of, wave_of}
use Rattle.reset_model.specs.Headline.{Steps, Transition, events_of}
use Rattle.reset_model.specs.MachineSteps.{IsStep, row_step, act_step}
use Rattle.reset_model.specs.Progress.{WavesEnd, is_request, size_of, times_in}
use Rattle.reset_model.specs.Sound.{IsSound}
use Rattle.reset_model.specs.Steps.{event_node, is_of_a_wave}
use Rattle.reset_model.proofs.Answering.{answered}
use Rattle.reset_model.proofs.GoingOn.{settled_or_goes}
use Rattle.reset_model.proofs.Headlines.{step_kept, steps_kept}
use Rattle.reset_model.proofs.Measures.{measure, measure_most, measure_settled, row_lowers, total, total_is}

module _ {L : Type 0} (app : App L) (i : ℕ) where
  -- ---- one step

  module _ (c c' : Configuration L) (e : Event) (graph : IsGraph c.graph) (counted : IsModulus c.modulus)
      (sound : IsSound c) (node : IsNode c.graph i) where
    step_lowers : IsStep app c e c'
        → total c.graph graph i node (wave_of c') + cond (is_of_a_wave e && reaches c.graph i (event_node e)) 1 0
        ≤ total c.graph graph i node (wave_of c)
        + 3 * size_of c.graph i * cond (is_request e && reaches c.graph i (event_node e)) 1 0
    step_lowers (row_step step) =
        row_lowers c.graph graph i node (node_bound c.graph) c.modulus counted (tree_of c) (tree_of c') (wave_of c)
        (wave_of c') sound e step.regs
    step_lowers (act_step k case with is step) =
        let waves : wave_of c' ≡ wave_of c = rw (step.graph, step.waves) refl in
        let same : total c.graph graph i node (wave_of c') ≡ total c.graph graph i node (wave_of c) =
        ap (total c.graph graph i node) waves in
        let Goes : Event → Type 0 =
        λ d. total c.graph graph i node (wave_of c') + cond (is_of_a_wave d && reaches c.graph i (event_node d)) 1 0
        ≤ total c.graph graph i node (wave_of c)
        + 3 * size_of c.graph i * cond (is_request d && reaches c.graph i (event_node d)) 1 0 in
        subst Goes (sym is) (omega (arith, same))

  -- ---- many steps

  -- what the steps of these events do to the measure
  abbrev Lower : Graph → List Event → Configuration L → Configuration L → Type 0
  Lower g es c c' =
      measure g (wave_of c') i + times_in g i is_of_a_wave es
      ≤ measure g (wave_of c) i + 3 * size_of g i * times_in g i is_request es

  steps_lower : (ss : List (Transition L)) (c c' : Configuration L) → IsGraph c.graph → IsModulus c.modulus → IsSound c
      → IsNode c.graph i → Steps app c ss c' → Lower c.graph (events_of ss) c c'
  steps_lower [] c c' graph counted sound node steps =
      let same : measure c.graph (wave_of c') i ≡ measure c.graph (wave_of c) i =
      ap (λ k. measure c.graph (wave_of k) i) steps in
      omega (arith, same)
  steps_lower (s ∷ ss) c c' graph counted sound node steps =
      let g = c.graph in
      let e = s.event in
      let d = s.after in
      let kept = step_kept app c d e graph counted sound steps.1 in
      let On : Graph → Type 0 = λ h. IsGraph h × IsNode h i in
      let there : On d.graph = subst On (sym kept.graph) (graph, node) in
      let After : Graph → Type 0 = λ h. Lower h (events_of ss) d c' in
      let rest : After g = subst After kept.graph (steps_lower ss d c' there.0 kept.modulus kept.sound there.1 steps.2) in
      let now : ℕ = cond (is_request e && reaches g i (event_node e)) 1 0 in
      omega (
        arith,
        step_lowers c d e graph counted sound node steps.1,
        total_is g graph i node (wave_of d),
        total_is g graph i node (wave_of c),
        rest,
        mul-add (3 * size_of g i) now (times_in g i is_request (events_of ss)),
      )

  -- ---- and all of it

  pub waves_end : (c c' : Configuration L) (ss : List (Transition L)) → IsGraph c.graph → IsModulus c.modulus → IsSound c
      → IsNode c.graph i → Steps app c ss c' → WavesEnd app c ss c' i
  waves_end c c' ss graph counted sound node steps =
      let kept = steps_kept app ss c c' graph counted sound steps in
      let On : Graph → Type 0 = λ h. IsGraph h × IsNode h i in
      let there : On c'.graph = subst On (sym kept.graph) (graph, node) in
      record {
        bound =
            omega
            (arith, steps_lower ss c c' graph counted sound node steps, measure_most c.graph graph i node (wave_of c));
        rested =
            λ settled. omega
            (arith, steps_lower ss c c' graph counted sound node steps, measure_settled c.graph graph i node (wave_of c) settled);
        rest = settled_or_goes app c' there.0 kept.sound i there.1;
        answered = answered app ss c c' i graph counted sound node kept.graph steps;
      }
