-- Entries leave the modulus as it was.
use Rattle.std.proofs.Common.{◌≡◌, ◌∙◌, ℕ, Bool, true, false, cond, not, List, [], ◌∷◌, Option, Some, None, Result, Ok}
use Rattle.std.proofs.Common.{Err, MatchResult, ap, refl, sym}
use Rattle.std.specs.Option.{option_and_then}
use Rattle.app_interface.specs.Application.{App}
use Rattle.topology.specs.Changing.{first_of}
use Rattle.topology.specs.Graph.{is_node}
use Rattle.reset_model.specs.Configuration.{Configuration}
use Rattle.reset_model.specs.Planned.{Outcome, Planned, after_effect, outcome_of, planned, written}
use Rattle.reset_model.specs.Steps.{event_node}
use Rattle.reset_model.specs.View.{view_of}
use Rattle.reset_model.specs.declared.event.Event.{Event}
use Rattle.reset_model.specs.declared.plan.Effect.{Effect}
use Rattle.reset_model.specs.declared.plan.Effect.TheVariants.{Tree, Wave, Local}
use Rattle.reset_model.specs.declared.step.StepRefusal.TheVariants.{StrangeNode}
use Rattle.fault_inject.specs.Effects.{damaged, injected, refusals, with_read}
use Rattle.fault_inject.specs.declared.fault.Fault.{Fault}
use Rattle.fault_inject.specs.declared.fault.Fault.TheVariants.{SetTree, SetWave, SetLocal, LinkDown, LinkUp}
use Rattle.fault_inject.specs.declared.fault.Fault.TheVariants.{NodeDown, NodeUp}
use Rattle.fault_inject.specs.declared.refusal.FaultRefusal.{FaultRefusal}
use Rattle.history.specs.Entries.{entered, left_by_fault, left_by_step, replayed}
use Rattle.history.specs.declared.entry.Entry.{Entry}
use Rattle.history.specs.declared.entry.Entry.TheVariants.{Step, Disturbed}

module _ {L : Type 0} (app : App L) (from_text : List ℕ → Option L) (c : Configuration L) where
  -- ---- an event

  -- what an event leaves, if it isn't refused, has the modulus of c
  abbrev OutcomeKeeps : Outcome L → Type 0
  OutcomeKeeps o = MatchResult o (λ done. done.0.modulus ≡ c.modulus) (λ f. Unit {0})

  effect_modulus : (i : ℕ) (does : Effect L) → (after_effect c i does).modulus ≡ c.modulus
  effect_modulus i (Tree regs) = refl
  effect_modulus i (Wave regs None) = refl
  effect_modulus i (Wave regs (Some local)) = refl
  effect_modulus i (Local local) = refl

  written_keeps : (i : ℕ) (there : Bool) (does : Planned L)
      → OutcomeKeeps (cond (not there) (Err StrangeNode) (written c i does))
  written_keeps i false does = tt
  written_keeps i true (Ok does) = effect_modulus i does.0
  written_keeps i true (Err f) = tt

  outcome_keeps : (e : Event) → OutcomeKeeps (outcome_of app c e)
  outcome_keeps e = written_keeps (event_node e) (is_node c.graph (event_node e))
      (planned app (view_of app c (event_node e)) e)

  -- ---- a fault

  abbrev FaultKeeps : Result (Configuration L) FaultRefusal → Type 0
  FaultKeeps o = MatchResult o (λ left. left.modulus ≡ c.modulus) (λ f. Unit {0})

  read_modulus : (at : ℕ) (o : Option L) → (with_read c at o).modulus ≡ c.modulus
  read_modulus at None = refl
  read_modulus at (Some local) = refl

  damaged_modulus : (f : Fault) → (damaged app from_text c f).modulus ≡ c.modulus
  damaged_modulus (SetTree at regs) = refl
  damaged_modulus (SetWave at regs) = refl
  damaged_modulus (SetLocal at text) = read_modulus at (from_text text)
  damaged_modulus (LinkDown a b) = refl
  damaged_modulus (LinkUp a b) = refl
  damaged_modulus (NodeDown at) = refl
  damaged_modulus (NodeUp at) = refl

  injected_keeps : (f : Fault) → FaultKeeps (injected app from_text c f)
  unfolding injected
  injected_keeps f =
      elim (first_of (refusals from_text c f)) as (λ o. FaultKeeps ((elim o as (λ _. Configuration L
      → Result (Configuration L) FaultRefusal) [ None ↦ λ d. Ok d | Some refusal ↦ λ d. Err refusal ])
      (damaged app from_text c f))) [ None ↦ damaged_modulus f | Some refusal ↦ tt ]

  -- ---- an entry

  abbrev EntryKeeps : Option (Configuration L) → Type 0
  EntryKeeps o = (left : Configuration L) → o ≡ Some left → left.modulus ≡ c.modulus

  step_keeps : (o : Outcome L) → OutcomeKeeps o → EntryKeeps (left_by_step o)
  step_keeps (Ok done) keeps left is =
      let same : done.0 ≡ left = cc in ap (λ (d : Configuration L). d.modulus) (sym same) ∙ keeps
  step_keeps (Err f) keeps left is = absurd (cc)

  fault_keeps : (o : Result (Configuration L) FaultRefusal) → FaultKeeps o → EntryKeeps (left_by_fault o)
  fault_keeps (Ok done) keeps left is =
      let same : done ≡ left = cc in ap (λ (d : Configuration L). d.modulus) (sym same) ∙ keeps
  fault_keeps (Err f) keeps left is = absurd (cc)

  entered_keeps : (entry : Entry) → EntryKeeps (entered app from_text c entry)
  entered_keeps (Step e) = step_keeps (outcome_of app c e) (outcome_keeps e)
  entered_keeps (Disturbed f) = fault_keeps (injected app from_text c f) (injected_keeps f)

-- what entries leave is of the modulus that they began with
module _ {L : Type 0} (app : App L) (from_text : List ℕ → Option L) where
  pub replayed_modulus : (es : List Entry) (c left : Configuration L) → replayed app from_text c es ≡ Some left
      → left.modulus ≡ c.modulus
  unfolding replayed
  replayed_modulus [] c left is =
      let same : c ≡ left = cc in ap (λ (d : Configuration L). d.modulus) (sym same)
  replayed_modulus (e ∷ es) c left is =
      by_entry
      (λ after some rest. replayed_modulus es after left rest ∙ entered_keeps app from_text c e after some)
      (entered app from_text c e) refl is
    where
      by_entry : ((after : Configuration L) → entered app from_text c e ≡ Some after
          → replayed app from_text after es ≡ Some left → left.modulus ≡ c.modulus)
          → (o : Option (Configuration L)) → entered app from_text c e ≡ o
          → option_and_then (λ after. replayed app from_text after es) o ≡ Some left → left.modulus ≡ c.modulus
      by_entry later (Some after) some is = later after some is
      by_entry later None none is = absurd (cc)
