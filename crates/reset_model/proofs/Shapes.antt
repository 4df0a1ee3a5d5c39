-- What an event leaves keeps the graph and a place for each node.
use Rattle.std.proofs.Common.{◌≡◌, ℕ, not, Bool, true, false, cond, nat_eq, List, [], ◌∷◌, length, Some, None}
use Rattle.std.proofs.Common.{Result, Ok, Err, MatchResult, subst, arith}
use Rattle.topology.specs.Graph.{is_node}
use Rattle.app_interface.specs.Application.{App}
use Rattle.reset_model.specs.declared.event.Event.{Event}
use Rattle.reset_model.specs.declared.step.Reply.{Reply}
use Rattle.reset_model.specs.declared.step.StepRefusal.{StepRefusal}
use Rattle.reset_model.specs.declared.step.StepRefusal.TheVariants.{StrangeNode}
use Rattle.reset_model.specs.Configuration.{Configuration, IsShaped, put_at}
use Rattle.reset_model.specs.Steps.{event_node}
use Rattle.reset_model.specs.declared.plan.Effect.{Effect}
use Rattle.reset_model.specs.declared.plan.Effect.TheVariants.{Tree, Wave, Local}
use Rattle.reset_model.specs.Planned.{after_effect, outcome_of, planned, written}
use Rattle.reset_model.specs.View.{view_of}

pub length-put_at : {X : Type 0} (ids : List ℕ) (xs : List X) (i : ℕ) (y : X) → length xs ≡ length ids
    → length (put_at ids xs i y) ≡ length ids
length-put_at [] xs i y same = same
length-put_at (k ∷ ks) [] i y same = same
length-put_at (k ∷ ks) (x ∷ xs) i y same =
    let rest : length (put_at ks xs i y) ≡ length ks = length-put_at ks xs i y (omega (arith, same)) in
    elim (nat_eq k i) as (λ b. length (cond b (y ∷ xs) (x ∷ put_at ks xs i y)) ≡ length (k ∷ ks))
    [ true ↦ same | false ↦ omega (arith, rest) ]

module _ {L : Type 0} (app : App L) (c : Configuration L) (shaped : IsShaped c) where
  effect_shaped : (i : ℕ) (does : Effect L) → IsShaped (after_effect c i does)
  effect_shaped i (Tree regs) =
      record {
        modulus = shaped.modulus;
        trees = length-put_at c.graph.ids c.trees i regs shaped.trees;
        waves = shaped.waves;
        locals = shaped.locals;
      }
  effect_shaped i (Wave regs None) =
      record {
        modulus = shaped.modulus;
        trees = shaped.trees;
        waves = length-put_at c.graph.ids c.waves i regs shaped.waves;
        locals = shaped.locals;
      }
  effect_shaped i (Wave regs (Some local)) =
      record {
        modulus = shaped.modulus;
        trees = shaped.trees;
        waves = length-put_at c.graph.ids c.waves i regs shaped.waves;
        locals = length-put_at c.graph.ids c.locals i local shaped.locals;
      }
  effect_shaped i (Local local) =
      record {
        modulus = shaped.modulus;
        trees = shaped.trees;
        waves = shaped.waves;
        locals = length-put_at c.graph.ids c.locals i local shaped.locals;
      }

  abbrev LeavesShaped : Result (Configuration L × Reply) StepRefusal → Type 0
  LeavesShaped r = MatchResult r (λ after. IsShaped after.0) (λ f. Unit {0})

  written_shaped : (i : ℕ) (there : Bool) (r : Result (Effect L × Reply) StepRefusal)
      → LeavesShaped (cond (not there) (Err StrangeNode) (written c i r))
  written_shaped i false r = tt
  written_shaped i true (Ok does) = effect_shaped i does.0
  written_shaped i true (Err f) = tt

  shaped_outcome : (e : Event) → LeavesShaped (outcome_of app c e)
  shaped_outcome e =
      written_shaped (event_node e) (is_node c.graph (event_node e))
      (planned app (view_of app c (event_node e)) e)

  pub outcome_shaped : (e : Event) (c' : Configuration L) (reply : Reply) → outcome_of app c e ≡ Ok (c', reply)
      → IsShaped c'
  outcome_shaped e c' reply is = subst LeavesShaped is (shaped_outcome e)
