-- What the outcome of a step says of its result.
use Rattle.std.proofs.Common.{◌≡◌, ◌≢◌, ℕ, false, ◌+◌, ◌<◌, List, [], ◌∷◌, ◌++◌, length}
use Rattle.std.proofs.Common.{slice_get, slice_index, map, take, add-one, Option}
use Rattle.std.proofs.Common.{IfSome, Result, Ok, Err, IfOk, IfErr, MatchResult, refl, sym, ap, ap₂, subst, ◌∙◌}
use Rattle.std.proofs.lemmas.List.{map-append}
use Rattle.std.proofs.lemmas.Option.{slice_get-get_or}
use Rattle.app_interface.specs.Application.{App}
use Rattle.topology.specs.Graph.{IsGraph, node_bound}
use Rattle.wave_layer.specs.declared.regs.WaveMove.{WaveMove}
use Rattle.reset_model.specs.declared.event.Event.{Event}
use Rattle.reset_model.specs.declared.event.Event.TheVariants.{Claim, Follow, Adopt, Request, Relay, Open, Join, Finish}
use Rattle.reset_model.specs.declared.event.Event.TheVariants.{Mend, Act}
use Rattle.reset_model.specs.declared.plan.Fired.TheVariants.{Wave}
use Rattle.reset_model.specs.declared.step.Reply.{Reply}
use Rattle.reset_model.specs.declared.step.StepRefusal.{StepRefusal}
use Rattle.reset_model.specs.declared.step.StepRefusal.TheVariants.{NoMemory}
use Rattle.reset_model.specs.Configuration.{Configuration, IsShaped, tree_of, wave_of}
use Rattle.reset_model.specs.LocalSteps.{event_fired}
use Rattle.reset_model.specs.MachineSteps.{IsStep, IsRefused}
use Rattle.reset_model.specs.Outcome.{act_outcome, after_fired, fired_reply, row_outcome}
use Rattle.reset_model.specs.Planned.{outcome_of}
use Rattle.reset_model.specs.Steps.{event_node, is_act, reply_of}
use Rattle.reset_model.proofs.ConfigurationSteps.{outcome_is_step, outcome_is_refused, outcome-rows, put_wave_outcome}
use Rattle.reset_model.proofs.ViewedOutcomes.{outcome-is}
use Rattle.reset_machine.proofs.RunLists.{take_more}

-- an event that isn't an action has rows
pub no_act : (e : Event) → ((i case : ℕ) (with : Option ℕ) → e ≢ Act i case with) → is_act e ≡ false
no_act (Claim i) other = refl
no_act (Follow i) other = refl
no_act (Adopt i j) other = refl
no_act (Request i) other = refl
no_act (Relay i c) other = refl
no_act (Open i) other = refl
no_act (Join i) other = refl
no_act (Finish i) other = refl
no_act (Mend i) other = refl
no_act (Act i case with) other = absurd (other i case with refl)

module _ {L : Type 0} (app : App L) (c c' : Configuration L) (e : Event) where
  -- the result r, which leaves c', is the outcome
  abbrev pub IsOutcome : Result Reply StepRefusal → Type 0
  IsOutcome r =
      MatchResult r (λ reply. outcome_of app c e ≡ Ok (c', reply)) (λ f. f ≢ NoMemory → outcome_of app c e ≡ Err f)

  pub act_is_outcome : IsGraph c.graph → (i case : ℕ) (with : Option ℕ)
      → e ≡ Act i case with → (r : Result Reply StepRefusal)
      → MatchResult r (λ reply. act_outcome app c i case with ≡ Ok (c', reply))
      (λ f. f ≢ NoMemory → act_outcome app c i case with ≡ Err f) → IsOutcome r
  act_is_outcome graph i case with is (Ok reply) h =
      ap (outcome_of app c) is ∙ outcome-is app c graph (Act i case with) ∙ h
  act_is_outcome graph i case with is (Err f) h =
      λ other. ap (outcome_of app c) is ∙ outcome-is app c graph (Act i case with) ∙ h other

  pub row_is_outcome : IsGraph c.graph → is_act e ≡ false → (r : Result Reply StepRefusal)
      → MatchResult r (λ reply. row_outcome app c e ≡ Ok (c', reply)) (λ f. f ≢ NoMemory → row_outcome app c e ≡ Err f)
      → IsOutcome r
  row_is_outcome graph row (Ok reply) h = outcome-rows app c e graph row ∙ h
  row_is_outcome graph row (Err f) h = λ other. outcome-rows app c e graph row ∙ h other

  module _ (graph : IsGraph c.graph) (shaped : IsShaped c) where
    pub done_step : (r : Result Reply StepRefusal) → IsOutcome r → IfOk r (λ reply. IsStep app c e c')
    done_step (Ok reply) is = (outcome_is_step app c graph shaped e c' reply is).0
    done_step (Err f) is = tt

    pub done_reply : (r : Result Reply StepRefusal) → IsOutcome r
        → IfOk r (λ reply. reply ≡ reply_of (tree_of c) (wave_of c) e)
    done_reply (Ok reply) is = (outcome_is_step app c graph shaped e c' reply is).1
    done_reply (Err f) is = tt

    pub done_refused : (r : Result Reply StepRefusal) → IsOutcome r
        → IfErr r (λ f. f ≢ NoMemory → IsRefused app c e f)
    done_refused (Ok reply) is = tt
    done_refused (Err f) is = λ other. outcome_is_refused app c graph shaped e f (is other)

  -- what a row of the wave table leaves is the outcome
  pub wave_is_outcome : (move : WaveMove) (at : ℕ)
      → event_fired c.graph (node_bound c.graph) c.modulus (tree_of c) (wave_of c) e ≡ Ok (Wave move)
      → at ≡ event_node e → (r : Result Reply StepRefusal)
      → IfOk r (λ reply. (reply ≡ fired_reply (Wave move)) × (c' ≡ after_fired app c at (Wave move)))
      → IfErr r (λ f. f ≡ NoMemory)
      → MatchResult r (λ reply. row_outcome app c e ≡ Ok (c', reply)) (λ f. f ≢ NoMemory → row_outcome app c e ≡ Err f)
  wave_is_outcome move at planned here (Ok reply) h none =
      put_wave_outcome app c c' e move reply planned h.0 (h.1 ∙ ap (λ i. after_fired app c i (Wave move)) here)
  wave_is_outcome move at planned here (Err f) h none = λ other. absurd (other none)

-- what a command of a wave leaves is the outcome of the event that it is
pub wave_outcome : {L : Type 0} (app : App L) (c c' : Configuration L) (e command : Event) → IsGraph c.graph
    → e ≡ command → is_act command ≡ false → (r : Result Reply StepRefusal)
    → MatchResult r (λ reply. row_outcome app c command ≡ Ok (c', reply))
    (λ f. f ≢ NoMemory → row_outcome app c command ≡ Err f)
    → IsOutcome app c c' e r
wave_outcome app c c' e command graph same row r h =
    subst (λ k. IsOutcome app c c' k r) (sym same) (row_is_outcome app c c' command graph row r h)

-- ---- start states

-- one node more has its start state
pub start_more : {L : Type 0} (f : ℕ → L) (ids : List ℕ) (i : ℕ) (before after : List L) (x : L) → i < length ids
    → x ≡ f (slice_index ids i) → after ≡ before ++ x ∷ [] → before ≡ map f (take i ids)
    → after ≡ map f (take (i + 1) ids)
start_more {L} f ids i before after x short is pushed so_far =
    let one : L → List L = λ y. y ∷ [] in
    pushed ∙ ap₂ (λ xs y. xs ++ one y) so_far is ∙ sym (map-append f (take i ids) (slice_index ids i ∷ []))
    ∙ ap (map f) (sym (take_more 0 ids i short)) ∙ ap (λ k. map f (take k ids)) (sym (add-one i))

-- what is answered of an id that is there
pub start_is : {L : Type 0} (f : ℕ → L) (ids : List ℕ) (i : ℕ) (x : L) → i < length ids
    → IfSome (slice_get ids i) (λ id. x ≡ f id) → x ≡ f (slice_index ids i)
start_is f ids i x short h = rw (slice_get-get_or ids i 0 short) at h
