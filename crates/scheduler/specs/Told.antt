-- What is kept of a drawn run in place of a book: the configuration that it has come to, the text of its history, and how
-- many entries and reports that has.
use Rattle.std.specs.Prelude.{◌≡◌, ℕ, List, [], length, Option, Some}
use Rattle.rand_pcg.specs.Lcg.{Lcg}
use Rattle.app_interface.specs.Application.{App}
use Rattle.reset_model.specs.declared.event.Event.{Event}
use Rattle.reset_model.specs.Configuration.{Configuration}
use Rattle.fault_inject.specs.declared.fault.Fault.{Fault}
use Rattle.history.specs.Book.{BookView, IsBook}
use Rattle.history.specs.HistoryText.{history_text}
use Rattle.history.specs.Reports.{reports_of}
use Rattle.scheduler.specs.declared.history_text.DrivenHistory.{DrivenHistory}
use Rattle.scheduler.specs.Driven.{after_event, after_fault, drawn_step, drawn_steps, event_step}

-- the book that opens with a configuration and may have a million entries
abbrev pub new_book : {L : Type 0} → Configuration L → BookView L
new_book c = record { opening = c; entries = []; config = c; limit = 1000000 }

-- a history is that of a book: its text, and the numbers of its entries and of its reports
pub record IsTold {L : Type 0} (app : App L) (from_text : List ℕ → Option L) (b : BookView L) (h : DrivenHistory) :
    Type 0 where
  pub text : h.text.items ≡ history_text b.opening.modulus b.entries
  pub entries : h.entries ≡ length b.entries
  pub reports : h.reports ≡ length (reports_of app from_text b.opening b.entries)
  pub book : IsBook app from_text b

-- ---- what private clauses cite: a configuration and a history are those of a book that may have a million entries,
-- and stay so

pub record IsKept {L : Type 0} (app : App L) (from_text : List ℕ → Option L) (b : BookView L) (c : Configuration L)
    (h : DrivenHistory) : Type 0 where
  pub config : c ≡ b.config
  pub limit : b.limit ≡ 1000000
  pub told : IsTold app from_text b h

abbrev pub IsAfterEvent : {L : Type 0} → App L → (List ℕ → Option L) → Event → Configuration L → DrivenHistory
    → Configuration L → DrivenHistory → Type 0
IsAfterEvent {L = L} app from_text e c h c' h' =
    (b : BookView L) → IsKept app from_text b c h → IsKept app from_text (after_event app b (Some e)) c' h'

abbrev pub IsAfterFault : {L : Type 0} → App L → (List ℕ → Option L) → Fault → Configuration L → DrivenHistory
    → Configuration L → DrivenHistory → Type 0
IsAfterFault {L = L} app from_text f c h c' h' =
    (b : BookView L) → IsKept app from_text b c h → IsKept app from_text (after_fault app from_text b f) c' h'

-- a book and a generator, and a configuration and a history
abbrev pub IsKeptWith : {L : Type 0} → App L → (List ℕ → Option L) → BookView L × Lcg → Configuration L → DrivenHistory
    → Lcg → Type 0
IsKeptWith app from_text s c h g = IsKept app from_text s.0 c h × (g ≡ s.1)

abbrev pub IsAfterEventStep : {L : Type 0} → App L → (List ℕ → Option L) → Configuration L → DrivenHistory → Lcg
    → Configuration L → DrivenHistory → Lcg → Type 0
IsAfterEventStep {L = L} app from_text c h g c' h' g' =
    (b : BookView L) → IsKept app from_text b c h → IsKeptWith app from_text (event_step app b g) c' h' g'

abbrev pub IsAfterStep : {L : Type 0} → App L → (List ℕ → Option L) → ℕ → Configuration L → DrivenHistory → Lcg
    → Configuration L → DrivenHistory → Lcg → Type 0
IsAfterStep {L = L} app from_text faults c h g c' h' g' =
    (b : BookView L) → IsKept app from_text b c h
    → IsKeptWith app from_text (drawn_step app from_text faults b g) c' h' g'

abbrev pub IsAfterSteps : {L : Type 0} → App L → (List ℕ → Option L) → (steps faults : ℕ) → Configuration L
    → DrivenHistory → Lcg → Configuration L → DrivenHistory → Lcg → Type 0
IsAfterSteps {L = L} app from_text steps faults c h g c' h' g' =
    (b : BookView L) → IsKept app from_text b c h
    → IsKeptWith app from_text (drawn_steps app from_text faults steps b g) c' h' g'
