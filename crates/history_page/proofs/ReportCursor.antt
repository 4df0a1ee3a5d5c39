-- The reports of entries in turn, of which those of the next entry stand first.
use Rattle.std.proofs.Common.{◌≡◌, ℕ, suc, ◌+◌, ◌<◌, ◌≤◌, ◌⊎◌, inl, inr, List, [], ◌∷◌, ◌++◌, length, take, drop}
use Rattle.std.proofs.Common.{◌≢◌, Bool, cond, nat_eq, true, false, Option, Some, None, Ok, Err, refl, arith}
use Rattle.std.specs.Option.{option_map_or}
use Rattle.std.proofs.lemmas.Bool.Decides.{eqb_tells}
use Rattle.app_interface.specs.Application.{App}
use Rattle.reset_model.specs.Configuration.{Configuration}
use Rattle.reset_model.specs.Planned.{Outcome, outcome_of}
use Rattle.reset_model.specs.Steps.{event_node}
use Rattle.reset_model.specs.declared.step.Reply.{Reply}
use Rattle.reset_model.specs.declared.step.Reply.TheVariants.{Applied, Complete}
use Rattle.history.specs.declared.entry.Entry.{Entry}
use Rattle.history.specs.declared.entry.Entry.TheVariants.{Step, Disturbed}
use Rattle.history.specs.declared.entry.Report.{Report}
use Rattle.history.specs.Entries.{entered}
use Rattle.history.specs.Reports.{latest_opening, outcome_reported, report_of, reported, reports_from}
use Rattle.history_page.specs.Cursor.{told_count}

-- the first of the reports, if there is one, is of a later entry than that at this position
abbrev pub AreLater : ℕ → List Report → Type 0
AreLater place [] = Unit {0}
AreLater place (r ∷ rs) = place < r.finished

-- these are the reports of the entry at this position: it has one or none
abbrev pub AreHere : ℕ → List Report → Type 0
AreHere place [] = Unit {0}
AreHere place (r ∷ []) = r.finished ≡ place
AreHere place (r ∷ more ∷ rs) = ⊥

-- so many of them stand first
pub told_first : (place : ℕ) (here more : List Report) → AreHere place here → AreLater place more
    → (take (told_count place (here ++ more)) (here ++ more) ≡ here)
    × (drop (told_count place (here ++ more)) (here ++ more) ≡ more)
told_first place [] [] here later = (refl, refl)
told_first place [] (r ∷ rs) here later = by (eqb_tells r.finished place)
  where
    Told : ℕ → Type 0
    Told n = (take n (r ∷ rs) ≡ []) × (drop n (r ∷ rs) ≡ r ∷ rs)

    by : ((nat_eq r.finished place ≡ true) × (r.finished ≡ place)) ⊎ ((nat_eq r.finished place ≡ false) × (r.finished ≢ place))
        → Told (cond (nat_eq r.finished place) 1 0)
    by (inl t) = absurd (omega (arith, later, t.1))
    by (inr t) = rw t.0 (refl, refl)
told_first place (r ∷ []) more here later = by (eqb_tells r.finished place)
  where
    Told : ℕ → Type 0
    Told n = (take n (r ∷ more) ≡ r ∷ []) × (drop n (r ∷ more) ≡ more)

    by : ((nat_eq r.finished place ≡ true) × (r.finished ≡ place)) ⊎ ((nat_eq r.finished place ≡ false) × (r.finished ≢ place))
        → Told (cond (nat_eq r.finished place) 1 0)
    by (inl t) = rw t.0 (refl, refl)
    by (inr t) = absurd (t.1 here)
told_first place (r ∷ s ∷ rs) more here later = absurd here

pub told_within : (place : ℕ) (rs : List Report) → told_count place rs ≤ length rs
told_within place [] = omega arith
told_within place (r ∷ rs) = by (nat_eq r.finished place)
  where
    by : (b : Bool) → cond b 1 0 ≤ suc (length rs)
    by true = omega arith
    by false = omega arith

module _ {L : Type 0} (app : App L) (from_text : List ℕ → Option L) where
  outcome_here : (o : Outcome L) (opened : Option ℕ) (place : ℕ) → AreHere place (outcome_reported o opened place)
  outcome_here (Err f) opened place = tt
  outcome_here (Ok done) opened place = by done.1
    where
      by : (reply : Reply) → AreHere place (reported reply opened place)
      by Applied = tt
      by (Complete session) = refl

  pub entry_here : (c : Configuration L) (before : List Entry) (e : Entry)
      → AreHere (length before + 1) (report_of app c before e)
  entry_here c before (Step e) =
      outcome_here (outcome_of app c e) (latest_opening (event_node e) before) (length before + 1)
  entry_here c before (Disturbed f) = tt

  later_after : (n place : ℕ) (here more : List Report) → n < place → AreHere place here → AreLater n more
      → AreLater n (here ++ more)
  later_after n place [] more short here later = later
  later_after n place (r ∷ []) more short here later = omega (arith, short, here)
  later_after n place (r ∷ s ∷ rs) more short here later = absurd here

  pub rest_later : (es : List Entry) (c : Configuration L) (before : List Entry) (n : ℕ) → n ≤ length before
      → AreLater n (reports_from app from_text c before es)
  unfolding reports_from
  rest_later [] c before n low = tt
  rest_later (e ∷ es) c before n low =
      later_after n (length before + 1) (report_of app c before e) _ (omega (arith, low)) (entry_here c before e)
      (elim (entered app from_text c e) as (λ o. AreLater n (option_map_or (λ after. reports_from app from_text after
      (e ∷ before) es) o []))
      [ None ↦ tt | Some after ↦ rest_later es after (e ∷ before) n (omega (arith, low)) ])
