-- Reports come in the order of their completions.
use Rattle.std.proofs.Common.{◌≡◌, ℕ, zero, suc, ◌+◌, ◌<◌, ◌≤◌, List, [], ◌∷◌, ◌++◌, length, map, slice_index, Option}
use Rattle.std.proofs.Common.{Some, None, Ok, Err, subst, arith}
use Rattle.std.specs.List.Sorted.{IsStrictlyIncreasing}
use Rattle.std.specs.Option.{option_map_or}
use Rattle.app_interface.specs.Application.{App}
use Rattle.reset_model.specs.Configuration.{Configuration}
use Rattle.reset_model.specs.Planned.{Outcome, outcome_of}
use Rattle.reset_model.specs.Steps.{event_node}
use Rattle.reset_model.specs.declared.step.Reply.{Reply}
use Rattle.reset_model.specs.declared.step.Reply.TheVariants.{Applied, Complete}
use Rattle.history.specs.declared.entry.Entry.{Entry}
use Rattle.history.specs.declared.entry.Entry.TheVariants.{Step, Disturbed}
use Rattle.history.specs.declared.entry.Report.{Report}
use Rattle.history.specs.Entries.{entered}
use Rattle.history.specs.Reports.{latest_opening, outcome_reported, report_of, reported, reports_from, reports_of}

-- the numbers rise from n on
abbrev IsRising : ℕ → List ℕ → Type 0
IsRising n [] = Unit {0}
IsRising n (x ∷ xs) = (n < x) × IsRising x xs

increasing : (n : ℕ) (xs : List ℕ) → IsRising n xs → IsStrictlyIncreasing xs
increasing n [] rising k short = absurd (omega (arith, short))
increasing n (x ∷ []) rising k short = absurd (omega (arith, short))
increasing n (x ∷ y ∷ xs) rising zero short = rising.1.0
increasing n (x ∷ y ∷ xs) rising (suc k) short =
    let next : suc (k + 1) ≡ suc k + 1 = omega arith in
    subst (λ m. slice_index (y ∷ xs) k < slice_index (x ∷ y ∷ xs) m) next
    (increasing x (y ∷ xs) rising.1 k (omega (arith, short)))

-- the positions at which the completions were told
abbrev pub positions : List Report → List ℕ
positions reports = map (λ r. r.finished) reports

module _ {L : Type 0} (app : App L) (from_text : List ℕ → Option L) where
  -- later reports, that rise from any number up to this on
  abbrev GoOn : ℕ → List Report → Type 0
  GoOn here more = (n : ℕ) → n ≤ here → IsRising n (positions more)

  first_rises : (o : Outcome L) (opened : Option ℕ) (here n : ℕ) (more : List Report) → n < here → GoOn here more
      → IsRising n (positions (outcome_reported o opened here ++ more))
  first_rises (Err f) opened here n more low later = later n (omega (arith, low))
  first_rises (Ok done) opened here n more low later = by_reply done.1
    where
      by_reply : (reply : Reply) → IsRising n (positions (reported reply opened here ++ more))
      by_reply Applied = later n (omega (arith, low))
      by_reply (Complete session) = (low, later here (omega arith))

  entry_rises : (c : Configuration L) (back : List Entry) (entry : Entry) (n : ℕ) (more : List Report) → n ≤ length back
      → GoOn (length back + 1) more → IsRising n (positions (report_of app c back entry ++ more))
  entry_rises c back (Step e) n more low later =
      first_rises (outcome_of app c e) (latest_opening (event_node e) back) (length back + 1) n more
      (omega (arith, low)) later
  entry_rises c back (Disturbed f) n more low later = later n (omega (arith, low))

  rising : (es : List Entry) (c : Configuration L) (back : List Entry) (n : ℕ) → n ≤ length back
      → IsRising n (positions (reports_from app from_text c back es))
  unfolding reports_from
  rising [] c back n low = tt
  rising (e ∷ es) c back n low =
      entry_rises c back e n _ low
      (by_entry (λ after m high. rising es after (e ∷ back) m (omega (arith, high))) (entered app from_text c e))
    where
      by_entry : ((after : Configuration L) → GoOn (length back + 1) (reports_from app from_text after (e ∷ back) es))
          → (o : Option (Configuration L))
          → GoOn (length back + 1) (option_map_or (λ after. reports_from app from_text after (e ∷ back) es) o [])
      by_entry later (Some after) = later after
      by_entry later None = λ m high. tt

  pub in_turn : (opening : Configuration L) (es : List Entry)
      → IsStrictlyIncreasing (positions (reports_of app from_text opening es))
  in_turn opening es =
      increasing 0 (positions (reports_of app from_text opening es)) (rising es opening [] 0 (omega arith))
