-- What the steps of a drawn run leave.
use Rattle.std.proofs.Common.{◌≡◌, ℕ, zero, suc, ◌+◌, ◌%◌, Bool, true, false, cond, nat_lt, add-one, refl, sym, ap, ap₂}
use Rattle.std.proofs.Common.{◌∙◌, List, Option, Some, None, Result, Ok, Err, IfOk, OnOk}
use Rattle.std.specs.Option.{option_and_then}
use Rattle.rand_pcg.specs.Lcg.{Lcg}
use Rattle.rand_pcg.specs.Pcg.{pcg32}
use Rattle.app_interface.specs.Application.{App}
use Rattle.reset_model.specs.declared.event.Event.{Event}
use Rattle.reset_model.specs.Configuration.{Configuration}
use Rattle.reset_model.specs.Planned.{Outcome, outcome_of}
use Rattle.fault_inject.specs.declared.fault.Fault.{Fault}
use Rattle.fault_inject.specs.declared.refusal.FaultRefusal.{FaultRefusal}
use Rattle.reset_machine.specs.Enabled.{ready_of}
use Rattle.fault_inject.specs.Drawn.{drawn_fault, next_words}
use Rattle.fault_inject.specs.Effects.{injected}
use Rattle.history.specs.Book.{BookView, book_outcome, disturbance, is_full}
use Rattle.scheduler.specs.Driven.{after_event, after_fault, drawn_by, drawn_step, drawn_steps, event_step, fault_step}
use Rattle.scheduler.specs.Driven.{drawn_of, enabled_events, left_after, or_all}

-- what was done tells more
pub on_ok : {X E : Type 0} (r : Result X E) (P Q : Type 0) → (P → Q) → OnOk r P → OnOk r Q
on_ok (Ok x) P Q tells is = tells is
on_ok (Err f) P Q tells is = tt

-- ---- a step

module _ {L : Type 0} (app : App L) (from_text : List ℕ → Option L) (b : BookView L) (g : Lcg) where
  pub fault_drawn : (c : Configuration L) (f : Fault) (left : BookView L) (after : Lcg) → c ≡ b.config
      → f ≡ drawn_fault c.graph.ids (next_words g).0 → after ≡ (next_words g).1 → left ≡ after_fault app from_text b f
      → (left, after) ≡ fault_step app from_text b g
  unfolding fault_step
  fault_drawn c f left after same is next done =
      let drawn : f ≡ drawn_fault b.config.graph.ids (next_words g).0 =
      is ∙ ap (λ (k : Configuration L). drawn_fault k.graph.ids (next_words g).0) same in
      ap₂ (λ (l : BookView L) (a : Lcg). (l, a)) (done ∙ ap (after_fault app from_text b) drawn) next

-- the event that two words draw, by the nodes that are ready
module _ {L : Type 0} (app : App L) (c : Configuration L) (ready : List ℕ) (for_node for_event : ℕ) where
  abbrev pub of_node : Option ℕ → Option Event
  of_node o = option_and_then (λ node. drawn_of (enabled_events app c node) for_event) o

  abbrev pub node_of : Option ℕ
  node_of = drawn_of (or_all c.graph.nodes ready) for_node

  pub event_found : (found : Option ℕ) (at : ℕ) (events : List Event) (drawn : Option Event) → found ≡ node_of
      → found ≡ Some at → events ≡ enabled_events app c at → drawn ≡ drawn_of events for_event → drawn ≡ of_node node_of
  event_found found at events drawn draws there enabled is =
      is ∙ ap (λ es. drawn_of es for_event) enabled ∙ ap of_node (sym there ∙ draws)

  pub no_event_found : (found : Option ℕ) → found ≡ node_of → found ≡ None → None ≡ of_node node_of
  no_event_found found draws none = ap of_node (sym none ∙ draws)

  drawn_by_ready : (d : Configuration L) (drawn : Option Event) → c ≡ d → ready ≡ ready_of app d
      → drawn ≡ of_node node_of → drawn ≡ drawn_by app d for_node for_event
  unfolding drawn_by
  drawn_by_ready d drawn same busy is =
      is
      ∙ ap₂ (λ (k : Configuration L) (ids : List ℕ).
      option_and_then (λ node. drawn_of (enabled_events app k node) for_event)
      (drawn_of (or_all k.graph.nodes ids) for_node)) same busy

  pub if_drawn_by_ready : {E : Type 0} (d : Configuration L) (r : Result (Option Event) E) → c ≡ d
      → ready ≡ ready_of app d → IfOk r (λ drawn. drawn ≡ of_node node_of)
      → IfOk r (λ drawn. drawn ≡ drawn_by app d for_node for_event)
  if_drawn_by_ready d (Ok drawn) same busy is = drawn_by_ready d drawn same busy is
  if_drawn_by_ready d (Err f) same busy is = tt

module _ {L : Type 0} (app : App L) (b : BookView L) (g : Lcg) where
  pub event_drawn : (for_node for_event : ℕ) (first second : Lcg) (before left : BookView L) (drawn : Option Event)
      → (for_node, first) ≡ pcg32 g → (for_event, second) ≡ pcg32 first → before ≡ b
      → drawn ≡ drawn_by app b.config for_node for_event → left ≡ after_event app before drawn
      → (left, second) ≡ event_step app b g
  unfolding event_step
  event_drawn for_node for_event first second before left drawn one two same is done =
      let did : left ≡ after_event app b (drawn_by app b.config for_node for_event) =
      done ∙ ap₂ (after_event app) same is in
      ap (λ (l : BookView L). (l, second)) did
      ∙ ap (λ (p : ℕ × Lcg). (after_event app b (drawn_by app b.config for_node p.0), p.1)) two
      ∙ ap (λ (p : ℕ × Lcg). let q = pcg32 p.1 in (after_event app b (drawn_by app b.config p.0 q.0), q.1)) one

module _ {L : Type 0} (app : App L) (from_text : List ℕ → Option L) (faults : ℕ) (b : BookView L) (g : Lcg) where
  pub kind_drawn : (kind : ℕ) (next : Lcg) (is_fault : Bool) → (kind, next) ≡ pcg32 g
      → nat_lt (kind % 1000) faults ≡ is_fault
      → cond is_fault (fault_step app from_text b next) (event_step app b next) ≡ drawn_step app from_text faults b g
  unfolding drawn_step
  kind_drawn kind next is_fault word is =
      ap (λ t. cond t (fault_step app from_text b next) (event_step app b next)) (sym is)
      ∙ ap (λ (p : ℕ × Lcg). cond (nat_lt (p.0 % 1000) faults) (fault_step app from_text b p.1) (event_step app b p.1)) word

  pub step_drawn : {X E : Type 0} (r : Result X E) (left : BookView L × Lcg) (kind : ℕ) (next : Lcg) (is_fault : Bool)
      → (kind, next) ≡ pcg32 g → nat_lt (kind % 1000) faults ≡ is_fault
      → OnOk r (left ≡ cond is_fault (fault_step app from_text b next) (event_step app b next))
      → OnOk r (left ≡ drawn_step app from_text faults b g)
  step_drawn r left kind next is_fault word test =
      let does = cond is_fault (fault_step app from_text b next) (event_step app b next) in
      on_ok r (left ≡ does) (left ≡ drawn_step app from_text faults b g)
      (λ is. is ∙ kind_drawn kind next is_fault word test)

-- ---- a run

module _ {L : Type 0} (app : App L) (from_text : List ℕ → Option L) (faults : ℕ) (b : BookView L) (g : Lcg) where
  pub no_steps : (b, g) ≡ drawn_steps app from_text faults 0 b g
  unfolding drawn_steps
  no_steps = refl

  pub steps_more : (n : ℕ) (before after : BookView L × Lcg) → before ≡ drawn_steps app from_text faults n b g
      → after ≡ drawn_step app from_text faults before.0 before.1 → after ≡ drawn_steps app from_text faults (n + 1) b g
  unfolding drawn_steps
  steps_more n before after so_far is =
      is ∙ ap (λ (s : BookView L × Lcg). drawn_step app from_text faults s.0 s.1) so_far
      ∙ ap (λ k. drawn_steps app from_text faults k b g) (sym (add-one n))

-- ---- the opening and the limit stay

pub record Keeps {L : Type 0} (b left : BookView L) : Type 0 where
  pub opening : left.opening ≡ b.opening
  pub limit : left.limit ≡ b.limit

module _ {L : Type 0} where
  keeps : (b : BookView L) → Keeps b b
  keeps b = record { opening = refl; limit = refl }

  keeps_unless_full : {X E : Type 0} (b left : BookView L) (full : Bool) (x : X) (f : E) → Keeps b left
      → Keeps b (left_after b (cond full (Err f) (Ok (left, x))))
  keeps_unless_full b left true x f kept = keeps b
  keeps_unless_full b left false x f kept = kept

  step_keeps : (b : BookView L) (e : Event) (o : Outcome L) → Keeps b (left_after b (book_outcome b e o))
  step_keeps b e (Ok done) =
      keeps_unless_full b _ (is_full b) _ _ (record { opening = refl; limit = refl })
  step_keeps b e (Err f) = keeps b

  disturbance_keeps : (b : BookView L) (f : Fault) (o : Result (Configuration L) FaultRefusal)
      → Keeps b (left_after b (disturbance b f o))
  disturbance_keeps b f (Ok left) =
      keeps_unless_full b _ (is_full b) _ _ (record { opening = refl; limit = refl })
  disturbance_keeps b f (Err refusal) = keeps b

module _ {L : Type 0} (app : App L) (from_text : List ℕ → Option L) (faults : ℕ) where
  event_keeps : (b : BookView L) (drawn : Option Event) → Keeps b (after_event app b drawn)
  event_keeps b None = keeps b
  event_keeps b (Some e) = step_keeps b e (outcome_of app b.config e)

  event_step_keeps : (b : BookView L) (g : Lcg) → Keeps b (event_step app b g).0
  unfolding event_step
  event_step_keeps b g =
      let one = pcg32 g in
      event_keeps b (drawn_by app b.config one.0 (pcg32 one.1).0)

  fault_step_keeps : (b : BookView L) (g : Lcg) → Keeps b (fault_step app from_text b g).0
  unfolding fault_step
  fault_step_keeps b g =
      let f = drawn_fault b.config.graph.ids (next_words g).0 in
      disturbance_keeps b f (injected app from_text b.config f)

  either_keeps : (b : BookView L) (is_fault : Bool) (x y : BookView L × Lcg) → Keeps b x.0 → Keeps b y.0
      → Keeps b (cond is_fault x y).0
  either_keeps b true x y first second = first
  either_keeps b false x y first second = second

  drawn_step_keeps : (b : BookView L) (g : Lcg) → Keeps b (drawn_step app from_text faults b g).0
  unfolding drawn_step
  drawn_step_keeps b g =
      let kind = pcg32 g in
      either_keeps b (nat_lt (kind.0 % 1000) faults) (fault_step app from_text b kind.1) (event_step app b kind.1)
      (fault_step_keeps b kind.1) (event_step_keeps b kind.1)

  pub steps_keep : (n : ℕ) (b : BookView L) (g : Lcg) → Keeps b (drawn_steps app from_text faults n b g).0
  unfolding drawn_steps
  steps_keep zero b g = keeps b
  steps_keep (suc n) b g =
      let before = drawn_steps app from_text faults n b g in
      let so_far = steps_keep n b g in
      let last = drawn_step_keeps before.0 before.1 in
      record { opening = last.opening ∙ so_far.opening; limit = last.limit ∙ so_far.limit }
