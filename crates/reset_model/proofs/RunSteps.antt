-- Runs are steps that are taken in turn; and a booted configuration is ready for some.
use Rattle.std.proofs.Common.{◌≡◌, ℕ, List, [], ◌∷◌, length, Ok, Err, refl, sym, ap, subst, ◌∙◌}
use Rattle.std.proofs.lemmas.List.{length-map, length-replicate}
use Rattle.action_tables.specs.Modulus.{IsModulus}
use Rattle.app_interface.specs.Application.{App}
use Rattle.topology.specs.Graph.{Graph, IsGraph}
use Rattle.reset_model.specs.declared.event.Event.{Event}
use Rattle.reset_model.specs.declared.step.Done.{Done}
use Rattle.reset_model.specs.declared.step.Done.TheVariants.{Did, Refused}
use Rattle.reset_model.specs.declared.step.Reply.{Reply}
use Rattle.reset_model.specs.declared.step.StepRefusal.{StepRefusal}
use Rattle.reset_model.specs.Completion.{applied}
use Rattle.reset_model.specs.Configuration.{Configuration, IsShaped}
use Rattle.reset_model.specs.Headline.{Steps, Transition, events_of}
use Rattle.reset_model.specs.Outcome.{IsBoot}
use Rattle.reset_model.specs.Planned.{outcome_of}
use Rattle.reset_model.specs.Runs.{IsDone, IsRun}
use Rattle.reset_model.specs.Sound.{IsSound}
use Rattle.reset_model.proofs.ConfigurationSteps.{outcome_is_refused, outcome_is_step}
use Rattle.reset_model.proofs.SoundConfigurations.{boot_tree_picture, boot_wave_picture, pictures_sound}

module _ {L : Type 0} (app : App L) where
  -- what was refused is left out
  pub run_steps : (es : List Event) (ds : List Done) (c c' : Configuration L) → IsRun app c es ds c'
      → (ss : List (Transition L)) × (events_of ss ≡ applied es ds) × Steps app c ss c'
  run_steps [] [] c c' run = ([], refl, run)
  run_steps [] (d ∷ ds) c c' run = absurd run
  run_steps (e ∷ es) [] c c' run = absurd run
  run_steps (e ∷ es) (Did reply ∷ ds) c c' run =
      let rest = run_steps es ds run.0 c' run.2 in
      (record { before = c; event = e; after = run.0 } ∷ rest.0, ap (λ xs. e ∷ xs) rest.1, (refl, run.1.0, rest.2))
  run_steps (e ∷ es) (Refused f ∷ ds) c c' run =
      let From : Configuration L → Type 0 = λ k. IsRun app k es ds c' in
      run_steps es ds c c' (subst From run.1.1 run.2)

  -- what an outcome is that came of an event
  pub applied_done : (c c' : Configuration L) (e : Event) (reply : Reply) → IsGraph c.graph → IsShaped c
      → outcome_of app c e ≡ Ok (c', reply) → IsDone app c e (Did reply) c'
  applied_done c c' e reply graph shaped is = outcome_is_step app c graph shaped e c' reply is

  pub refused_done : (c : Configuration L) (e : Event) (f : StepRefusal) → IsGraph c.graph → IsShaped c
      → outcome_of app c e ≡ Err f → IsDone app c e (Refused f) c
  refused_done c e f graph shaped is = ((λ other. outcome_is_refused app c graph shaped e f is), refl)

  pub boot_is_ready : (g : Graph) (m : ℕ) (c : Configuration L) → IsGraph g → IsModulus m → IsBoot app g m c
      → IsGraph c.graph × IsShaped c × IsSound c
  boot_is_ready g m c graph counted boot =
      let here = subst IsGraph (sym boot.graph) graph in
      let count : length g.ids ≡ length c.graph.ids = ap (λ (h : Graph). length h.ids) (sym boot.graph) in (
        here,
        record {
          modulus = subst IsModulus (sym boot.modulus) counted;
          trees = boot.trees.count ∙ count;
          waves = ap length boot.waves ∙ length-replicate (length g.ids) _ ∙ count;
          locals = ap length boot.locals ∙ length-map g.ids (app.start g) ∙ count;
        },
        pictures_sound c here (boot_tree_picture app g m c graph boot) (boot_wave_picture app g m c boot),
      )
