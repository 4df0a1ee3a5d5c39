-- What is kept while entries are played: where the latest openings are, and what holds of it.
use Rattle.std.specs.Prelude.{◌≡◌, ℕ, ◌≤◌, ◌==◌, nat_lt, position, slice_index_or, if◌then◌else◌, List, [], ◌∷◌}
use Rattle.std.specs.Prelude.{length, Option, Some, None, ⊤}
use Rattle.std.specs.Option.{option_and_then}
use Rattle.app_interface.specs.Application.{App}
use Rattle.reset_model.specs.declared.event.Event.{Event}
use Rattle.reset_model.specs.declared.event.Event.TheVariants.{Open}
use Rattle.reset_model.specs.Configuration.{Configuration}
use Rattle.history.specs.declared.entry.Entry.{Entry}
use Rattle.history.specs.declared.entry.Report.{Report}
use Rattle.history.specs.declared.openings.Openings.{Openings}
use Rattle.history.specs.declared.entry.VerifyFault.{VerifyFault}
use Rattle.history.specs.declared.entry.VerifyFault.TheVariants.{NotEnabledAt}
use Rattle.history.specs.declared.entry.VerifyFault.TheVariants as verify
use Rattle.history.specs.declared.player.PlayFault.{PlayFault}
use Rattle.history.specs.declared.player.PlayFault.TheVariants.{Refused, NoMemory}
use Rattle.history.specs.declared.player.Player.{Player}
use Rattle.history.specs.declared.verifier.Stop.{Stop}
use Rattle.history.specs.declared.verifier.Stop.TheVariants as stop
use Rattle.history.specs.declared.verifier.Verifier.{Verifier}
use Rattle.history.specs.Entries.{IsRefusal, replayed}
use Rattle.history.specs.Reports.{latest_opening, reports_of}

-- the position that a table has at the index, 0 past its end
abbrev pub table_at : Openings → ℕ → ℕ
table_at t k = slice_index_or t.positions.items k 0

-- a position, if it is later than the last fault
abbrev pub since : ℕ → ℕ → Option ℕ
since last_fault p = if nat_lt last_fault p then Some p else None

-- the position of the latest opening that the table tells at the index: what came up to the last fault doesn't count
abbrev pub told : Openings → ℕ → Option ℕ
told t k = since t.last_fault (table_at t k)

-- the same at the index of node i
abbrev pub told_of : Openings → List ℕ → ℕ → Option ℕ
told_of t ids i = option_and_then (told t) (position (λ j. j == i) ids)

-- no position in the table is greater than n
pub record IsWithin (t : Openings) (n : ℕ) : Type 0 where
  pub openings : (k : ℕ) → table_at t k ≤ n
  pub fault : t.last_fault ≤ n

-- the latest opening at node i after this event, at this position
abbrev pub opened_by : Event → ℕ → ℕ → Option ℕ → Option ℕ
opened_by (Open k) i position before = if k == i then Some position else before
opened_by _ i position before = before

-- the entries, the latest first, before those that came before
abbrev pub recent : List Entry → List Entry → List Entry
recent before [] = before
recent before (e ∷ es) = recent (e ∷ before) es

-- the configuration, the table and the reports are those after the entries
pub record IsPlayed {L : Type 0} (app : App L) (from_text : List ℕ → Option L) (c : Configuration L) (es : List Entry)
    (left : Configuration L) (t : Openings) (told_reports : List Report) : Type 0 where
  pub replay : replayed app from_text c es ≡ Some left
  pub openings : (i k : ℕ) → position (λ j. j == i) left.graph.ids ≡ Some k
      → told t k ≡ latest_opening i (recent [] es)
  pub within : IsWithin t (length es)
  pub reports : told_reports ≡ reports_of app from_text c es

-- what the player keeps is that of these entries
abbrev pub HasPlayed : {P L : Type 0} → App L → (List ℕ → Option L) → Configuration L → List Entry → Player P L
    → Type 0
HasPlayed app from_text c es p = IsPlayed app from_text c es p.config p.openings p.reports.items

-- why the entries are played no further, where those that were played leave this configuration
abbrev pub IsStoppedBy : {L : Type 0} → App L → (List ℕ → Option L) → Configuration L → List Entry → Configuration L
    → PlayFault → Type 0
IsStoppedBy app from_text c es left (Refused position entry) = IsRefusal app from_text c es position entry.now left
IsStoppedBy app from_text c es left NoMemory = ⊤

-- the fault, without the entry
abbrev pub verify_fault_of : PlayFault → VerifyFault
verify_fault_of (Refused position entry) = NotEnabledAt position
verify_fault_of NoMemory = verify.NoMemory

-- what is kept of it: the same, or that there was no memory for the entry
abbrev pub IsKept : PlayFault → Stop → Type 0
IsKept (Refused position entry) (stop.Refused at kept) = (at ≡ position) × (kept ≡ entry.now)
IsKept NoMemory (stop.Refused at kept) = ⊥
IsKept fault stop.NoMemory = ⊤

-- what a verifier keeps is that of these entries, up to the first fault: what its player keeps, and which of them is the
-- first that isn't allowed where it stands
abbrev pub IsPlayedTo : {P L : Type 0} → App L → (List ℕ → Option L) → Configuration L → List Entry → Player P L
    → Option Stop → Type 0
IsPlayedTo app from_text c es p None = HasPlayed app from_text c es p
IsPlayedTo app from_text c es p (Some (stop.Refused position entry)) =
    IsRefusal app from_text c es position entry p.config
IsPlayedTo app from_text c es p (Some stop.NoMemory) = ⊤

abbrev pub HasVerified : {P L : Type 0} → App L → (List ℕ → Option L) → Configuration L → List Entry → Verifier P L
    → Type 0
HasVerified app from_text c es v = IsPlayedTo app from_text c es v.player v.stop
