-- One entry more of a drawn run that is told by the text of its history.
use Rattle.std.proofs.Common.{◌≡◌, ℕ, ◌+◌, ◌<◌, Bool, true, false, cond, nat_le, nat_lt, List, [], ◌++◌, length, ap}
use Rattle.std.proofs.Common.{sym, refl, subst, ◌∙◌, ap₂, append-nil, add-one, arith, Option, Some, Result, Ok, Err, OnOk, ◌%◌}
use Rattle.std.proofs.lemmas.Bool.{leb-false}
use Rattle.std.proofs.lemmas.List.{flat_map_more, length-append, length_push}
use Rattle.std.proofs.lemmas.List.Elements.{All-push}
use Rattle.rand_pcg.specs.Lcg.{Lcg}
use Rattle.rand_pcg.specs.Pcg.{pcg32}
use Rattle.action_tables.specs.Modulus.{IsModulus}
use Rattle.app_interface.specs.Application.{App}
use Rattle.topology.specs.Graph.{IsGraph}
use Rattle.reset_model.specs.declared.event.Event.{Event}
use Rattle.reset_model.specs.declared.step.Reply.{Reply}
use Rattle.reset_model.specs.declared.step.Reply.TheVariants.{Applied, Complete}
use Rattle.reset_model.specs.Configuration.{Configuration, IsShaped}
use Rattle.reset_model.specs.Planned.{Outcome, outcome_of}
use Rattle.reset_model.specs.declared.step.StepRefusal.{StepRefusal}
use Rattle.reset_model.specs.Steps.{event_node}
use Rattle.reset_model.specs.EventText.{event_line}
use Rattle.fault_inject.specs.declared.fault.Fault.{Fault}
use Rattle.fault_inject.specs.declared.refusal.FaultRefusal.{FaultRefusal}
use Rattle.fault_inject.specs.Drawn.{drawn_fault, next_words}
use Rattle.fault_inject.specs.Effects.{injected}
use Rattle.fault_inject.specs.FaultText.{fault_line}
use Rattle.history.specs.declared.entry.Entry.{Entry}
use Rattle.history.specs.declared.entry.Entry.TheVariants.{Step, Disturbed}
use Rattle.history.specs.Book.{BookView, book_outcome, disturbance, is_full, with_entry}
use Rattle.history.specs.Entries.{entered}
use Rattle.history.specs.HistoryText.{HasLine, ended, entry_line, first_line}
use Rattle.history.specs.Played.{recent}
use Rattle.history.specs.Reports.{latest_opening, report_of, reported, reports_from}
use Rattle.history.proofs.Plays.{replayed_nil, replayed_snoc, reports_nil, reports_snoc}
use Rattle.scheduler.specs.Completions.{completions}
use Rattle.scheduler.specs.Driven.{after_event, after_fault, drawn_by, drawn_step, drawn_steps, event_step, fault_step, left_after}
use Rattle.scheduler.proofs.Steps.{event_drawn, fault_drawn, kind_drawn}
use Rattle.scheduler.specs.Told.{IsAfterStep, IsKept, IsKeptWith, new_book}
use Rattle.scheduler.specs.declared.history_text.DrivenHistory.{DrivenHistory}

-- what is left where there is room, and where there is none
left_with_room : {L X E : Type 0} (b left : BookView L) (full : Bool) (x : X) (f : E) → full ≡ false
    → left_after b (cond full (Err f) (Ok (left, x))) ≡ left
left_with_room b left full x f is = rw is refl

left_if_full : {L X E : Type 0} (b left : BookView L) (full : Bool) (x : X) (f : E) → full ≡ true
    → left_after b (cond full (Err f) (Ok (left, x))) ≡ b
left_if_full b left full x f is = rw is refl

module _ {L : Type 0} (app : App L) (from_text : List ℕ → Option L) (b : BookView L) (c c' : Configuration L)
    (h h' : DrivenHistory) (kept : IsKept app from_text b c h) where
  entry_kept : (entry : Entry) → h.entries < 1000000 → entered app from_text c entry ≡ Some c' → HasLine entry
      → IsModulus c'.modulus → h'.text.items ≡ h.text.items ++ ended (entry_line entry) → h'.entries ≡ h.entries + 1
      → h'.reports ≡ h.reports + length (report_of app c (recent [] b.entries) entry)
      → IsKept app from_text (with_entry b entry c') c' h'
  entry_kept entry room done line modulus text entries reports =
      let es = b.entries in
      let told = kept.told in
      let here : entered app from_text b.config entry ≡ Some c' =
      ap (λ (d : Configuration L). entered app from_text d entry) (sym kept.config) ∙ done in
      let more = reports_snoc app from_text b.opening b.config c' [] es entry told.book.replay here in
      record {
        config = refl;
        limit = kept.limit;
        told = record {
          text = text ∙ ap (λ t. t ++ ended (entry_line entry)) told.text
              ∙ flat_map_more (λ x. ended (entry_line x)) (ended (first_line b.opening.modulus)) es entry;
          entries = omega (arith, entries, told.entries, length_push es entry);
          reports = reports
              ∙ ap (λ n. n + length (report_of app c (recent [] es) entry)) told.reports
              ∙ ap (λ (d : Configuration L). length (reports_from app from_text b.opening [] es)
              + length (report_of app d (recent [] es) entry)) kept.config
              ∙ sym (length-append (reports_from app from_text b.opening [] es)
              (report_of app b.config (recent [] es) entry))
              ∙ ap length (sym more);
          book = record {
            graph = told.book.graph;
            shaped = told.book.shaped;
            replay = replayed_snoc app from_text b.opening b.config c' es entry told.book.replay here;
            room = omega (arith, room, kept.limit, told.entries, length_push es entry);
            small = told.book.small;
            lines = All-push HasLine es entry told.book.lines line;
            modulus = modulus;
          };
        };
      }

  fills : (full : Bool) → nat_le 1000000 h.entries ≡ full → is_full b ≡ full
  fills full is = ap₂ (λ l n. nat_le l n) kept.limit (sym kept.told.entries) ∙ is

  counted : (reply : Reply) (o : Option ℕ) (n : ℕ) → completions reply ≡ length (reported reply o n)
  counted Applied o n = refl
  counted (Complete session) o n = refl

  pub event_kept : (e : Event) (reply : Reply) → nat_le 1000000 h.entries ≡ false → outcome_of app c e ≡ Ok (c', reply)
      → HasLine (Step e) → IsModulus c'.modulus → h'.text.items ≡ h.text.items ++ ended (event_line e)
      → h'.entries ≡ h.entries + 1 → h'.reports ≡ h.reports + completions reply
      → IsKept app from_text (after_event app b (Some e)) c' h'
  event_kept e reply room does line modulus text entries reports =
      let done : entered app from_text c (Step e) ≡ Some c' = rw does refl in
      let tells : report_of app c (recent [] b.entries) (Step e)
      ≡ reported reply (latest_opening (event_node e) (recent [] b.entries)) (length (recent [] b.entries) + 1) =
      rw does refl in
      let enters : with_entry b (Step e) c' ≡ after_event app b (Some e) =
      sym (ap (λ o. left_after b (book_outcome b e o))
      (ap (λ (d : Configuration L). outcome_of app d e) (sym kept.config) ∙ does)
      ∙ left_with_room b (with_entry b (Step e) c') (is_full b) _ _ (fills false room)) in
      subst (λ (x : BookView L). IsKept app from_text x c' h') enters
      (entry_kept (Step e) (leb-false 1000000 h.entries room) done line modulus text entries
      (reports ∙ ap (λ n. h.reports + n) (counted reply _ _ ∙ ap length (sym tells))))

  pub fault_kept : (f : Fault) → nat_le 1000000 h.entries ≡ false → injected app from_text c f ≡ Ok c'
      → HasLine (Disturbed f) → IsModulus c'.modulus → h'.text.items ≡ h.text.items ++ ended (fault_line f)
      → h'.entries ≡ h.entries + 1 → h'.reports ≡ h.reports
      → IsKept app from_text (after_fault app from_text b f) c' h'
  fault_kept f room does line modulus text entries reports =
      let done : entered app from_text c (Disturbed f) ≡ Some c' = rw does refl in
      let enters : with_entry b (Disturbed f) c' ≡ after_fault app from_text b f =
      sym (ap (λ o. left_after b (disturbance b f o))
      (ap (λ (d : Configuration L). injected app from_text d f) (sym kept.config) ∙ does)
      ∙ left_with_room b (with_entry b (Disturbed f) c') (is_full b) _ _ (fills false room)) in
      subst (λ (x : BookView L). IsKept app from_text x c' h') enters
      (entry_kept (Disturbed f) (leb-false 1000000 h.entries room) done line modulus text entries (omega (arith, reports)))

-- ---- what is refused, or finds no room, leaves all as it was

module _ {L : Type 0} (b : BookView L) where
  full_event : (e : Event) (o : Outcome L) → is_full b ≡ true → left_after b (book_outcome b e o) ≡ b
  full_event e (Ok done) is = left_if_full b (with_entry b (Step e) done.0) (is_full b) _ _ is
  full_event e (Err f) is = refl

  full_fault : (f : Fault) (o : Result (Configuration L) FaultRefusal) → is_full b ≡ true
      → left_after b (disturbance b f o) ≡ b
  full_fault f (Ok left) is = left_if_full b (with_entry b (Disturbed f) left) (is_full b) _ _ is
  full_fault f (Err refusal) is = refl

module _ {L : Type 0} (app : App L) (from_text : List ℕ → Option L) (b : BookView L) (c : Configuration L)
    (h : DrivenHistory) (kept : IsKept app from_text b c h) where
  same_book : (b' : BookView L) → b' ≡ b → IsKept app from_text b' c h
  same_book b' is = subst (λ (x : BookView L). IsKept app from_text x c h) (sym is) kept

  pub event_full : (e : Event) → nat_le 1000000 h.entries ≡ true → IsKept app from_text (after_event app b (Some e)) c h
  event_full e full = same_book _ (full_event b e (outcome_of app b.config e) (fills app from_text b c c h h kept true full))

  pub fault_full : (f : Fault) → nat_le 1000000 h.entries ≡ true → IsKept app from_text (after_fault app from_text b f) c h
  fault_full f full =
      same_book _ (full_fault b f (injected app from_text b.config f) (fills app from_text b c c h h kept true full))

  pub event_refused : (e : Event) (refusal : StepRefusal) → outcome_of app c e ≡ Err refusal
      → IsKept app from_text (after_event app b (Some e)) c h
  event_refused e refusal is =
      same_book _ (ap (λ o. left_after b (book_outcome b e o))
      (ap (λ (d : Configuration L). outcome_of app d e) (sym kept.config) ∙ is))

  pub fault_refused : (f : Fault) (refusal : FaultRefusal) → injected app from_text c f ≡ Err refusal
      → IsKept app from_text (after_fault app from_text b f) c h
  fault_refused f refusal is =
      same_book _ (ap (λ o. left_after b (disturbance b f o))
      (ap (λ (d : Configuration L). injected app from_text d f) (sym kept.config) ∙ is))

-- what is told of what was done tells more
pub on_ok₁ : {X E : Type 0} (r : Result X E) (P S : Type 0) → OnOk r P → (P → S) → OnOk r S
on_ok₁ (Ok x) P S p tells = tells p
on_ok₁ (Err f) P S p tells = tt

pub on_ok₃ : {X E : Type 0} (r : Result X E) (P Q R S : Type 0) → OnOk r P → OnOk r Q → OnOk r R
    → (P → Q → R → S) → OnOk r S
on_ok₃ (Ok x) P Q R S p q r tells = tells p q r
on_ok₃ (Err f) P Q R S p q r tells = tt

-- ---- a step

module _ {L : Type 0} (app : App L) (from_text : List ℕ → Option L) (b : BookView L) (g : Lcg) (c c' : Configuration L)
    (h h' : DrivenHistory) (kept : IsKept app from_text b c h) where
  pub event_step_kept : (mid : Configuration L) (for_node for_event : ℕ) (first second : Lcg) (drawn : Option Event)
      → mid ≡ c → (for_node, first) ≡ pcg32 g → (for_event, second) ≡ pcg32 first
      → drawn ≡ drawn_by app c for_node for_event
      → (IsKept app from_text b mid h → IsKept app from_text (after_event app b drawn) c' h')
      → IsKeptWith app from_text (event_step app b g) c' h' second
  event_step_kept mid for_node for_event first second drawn same one two is happens =
      let by : drawn ≡ drawn_by app b.config for_node for_event =
      is ∙ ap (λ (d : Configuration L). drawn_by app d for_node for_event) kept.config in
      let step = event_drawn app b g for_node for_event first second b (after_event app b drawn) drawn one two refl by
      refl in
      let done = happens (subst (λ (d : Configuration L). IsKept app from_text b d h) (sym same) kept) in (
        subst (λ (s : BookView L × Lcg). IsKept app from_text s.0 c' h') step done,
        ap (λ (s : BookView L × Lcg). s.1) step,
      )

  pub fault_step_kept : (f : Fault) (after : Lcg) → f ≡ drawn_fault c.graph.ids (next_words g).0
      → after ≡ (next_words g).1 → IsKept app from_text (after_fault app from_text b f) c' h'
      → IsKeptWith app from_text (fault_step app from_text b g) c' h' after
  fault_step_kept f after is next done =
      let step = fault_drawn app from_text b g c f (after_fault app from_text b f) after kept.config is next refl in (
        subst (λ (s : BookView L × Lcg). IsKept app from_text s.0 c' h') step done,
        ap (λ (s : BookView L × Lcg). s.1) step,
      )

module _ {L : Type 0} (app : App L) (from_text : List ℕ → Option L) (faults : ℕ) (b : BookView L) (g : Lcg) where
  pub step_kept : (c' : Configuration L) (h' : DrivenHistory) (g' : Lcg) (kind : ℕ) (next : Lcg) (is_fault : Bool)
      → (kind, next) ≡ pcg32 g → nat_lt (kind % 1000) faults ≡ is_fault
      → IsKeptWith app from_text (cond is_fault (fault_step app from_text b next) (event_step app b next)) c' h' g'
      → IsKeptWith app from_text (drawn_step app from_text faults b g) c' h' g'
  step_kept c' h' g' kind next is_fault word test is =
      subst (λ (s : BookView L × Lcg). IsKeptWith app from_text s c' h' g')
      (kind_drawn app from_text faults b g kind next is_fault word test) is

-- ---- a run

pub nothing_kept : {L : Type 0} (app : App L) (from_text : List ℕ → Option L) (c : Configuration L) (h : DrivenHistory)
    → IsGraph c.graph → IsShaped c → h.text.items ≡ ended (first_line c.modulus) → h.entries ≡ 0 → h.reports ≡ 0
    → IsKept app from_text (new_book c) c h
nothing_kept app from_text c h graph shaped text entries reports = record {
  config = refl;
  limit = refl;
  told = record {
    text = text ∙ sym (append-nil (ended (first_line c.modulus)));
    entries = entries;
    reports = reports ∙ sym (ap length (reports_nil app from_text c []));
    book = record {
      graph = graph;
      shaped = shaped;
      replay = replayed_nil app from_text c;
      room = omega arith;
      small = omega arith;
      lines = λ k d short. absurd (omega arith);
      modulus = shaped.modulus;
    };
  };
}

module _ {L : Type 0} (app : App L) (from_text : List ℕ → Option L) (faults : ℕ) (b : BookView L) (g : Lcg)
    (c : Configuration L) (h : DrivenHistory) where
  pub first_kept : IsKept app from_text b c h → IsKeptWith app from_text (drawn_steps app from_text faults 0 b g) c h g
  unfolding drawn_steps
  first_kept kept = (kept, refl)

  pub steps_kept : (n : ℕ) (r r' : Lcg) (c' : Configuration L) (h' : DrivenHistory)
      → IsKeptWith app from_text (drawn_steps app from_text faults n b g) c h r
      → IsAfterStep app from_text faults c h r c' h' r'
      → IsKeptWith app from_text (drawn_steps app from_text faults (n + 1) b g) c' h' r'
  unfolding drawn_steps
  steps_kept n r r' c' h' so_far step =
      let before = drawn_steps app from_text faults n b g in
      let last = ap (drawn_step app from_text faults before.0) so_far.1
      ∙ ap (λ k. drawn_steps app from_text faults k b g) (sym (add-one n)) in
      subst (λ (s : BookView L × Lcg). IsKeptWith app from_text s c' h' r') last (step before.0 so_far.0)
