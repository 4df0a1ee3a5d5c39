-- What the entries of a history leave in turn, where each is allowed where it stands.
use Rattle.std.specs.Prelude.{◌≡◌, ℕ, ◌+◌, List, [], ◌∷◌, ◌++◌, length, Option, Some, None, Result, Ok, Err}
use Rattle.std.specs.Option.{option_and_then}
use Rattle.app_interface.specs.Application.{App}
use Rattle.reset_model.specs.Configuration.{Configuration}
use Rattle.reset_model.specs.Planned.{Outcome, outcome_of}
use Rattle.fault_inject.specs.declared.refusal.FaultRefusal.{FaultRefusal}
use Rattle.fault_inject.specs.Effects.{injected}
use Rattle.history.specs.declared.entry.Entry.{Entry}
use Rattle.history.specs.declared.entry.Entry.TheVariants.{Step, Disturbed}

-- the configuration that a step leaves, if it isn't refused
abbrev pub left_by_step : {L : Type 0} → Outcome L → Option (Configuration L)
left_by_step (Ok left) = Some left.0
left_by_step (Err f) = None

-- the configuration that a fault leaves, if it isn't refused
abbrev pub left_by_fault : {L : Type 0} → Result (Configuration L) FaultRefusal → Option (Configuration L)
left_by_fault (Ok left) = Some left
left_by_fault (Err f) = None

-- the configuration after an entry, where it is allowed; from_text gives the local state with a text
abbrev pub entered : {L : Type 0} → App L → (List ℕ → Option L) → Configuration L → Entry → Option (Configuration L)
entered app from_text c (Step e) = left_by_step (outcome_of app c e)
entered app from_text c (Disturbed f) = left_by_fault (injected app from_text c f)

-- what entries leave in turn, where each is allowed where it stands
unfoldable pub replayed : {L : Type 0} → App L → (List ℕ → Option L) → Configuration L → List Entry
    → Option (Configuration L)
replayed app from_text c [] = Some c
replayed app from_text c (e ∷ es) =
    option_and_then (λ after. replayed app from_text after es) (entered app from_text c e)

-- the entry after the first ones is the first that isn't allowed where it stands. Positions count from 1
pub record IsFirstRefused {L : Type 0} (app : App L) (from_text : List ℕ → Option L) (c : Configuration L)
    (es : List Entry) (position : ℕ) : Type 0 where
  pub before : List Entry
  pub entry : Entry
  pub rest : List Entry
  pub left : Configuration L
  pub split : es ≡ before ++ entry ∷ rest
  pub allowed : replayed app from_text c before ≡ Some left
  pub refused : entered app from_text left entry ≡ None
  pub place : position ≡ length before + 1

-- and it is this entry, before which the entries leave this configuration
pub record IsRefusal {L : Type 0} (app : App L) (from_text : List ℕ → Option L) (c : Configuration L)
    (es : List Entry) (position : ℕ) (entry : Entry) (left : Configuration L) : Type 0 where
  pub first : IsFirstRefused app from_text c es position
  pub entry_is : first.entry ≡ entry
  pub left_is : first.left ≡ left
