-- The reports of entries stand in rows of entries, each below those before it.
use Rattle.std.proofs.Common.{ℕ, suc, ◌+◌, ◌<◌, ◌≤◌, nat_eq, Bool, true, false, cond, List, [], ◌∷◌}
use Rattle.std.proofs.Common.{◌++◌, length, Option, Some, None, IfSome, Ok, Err, arith}
use Rattle.std.specs.Option.{option_map_or}
use Rattle.app_interface.specs.Application.{App}
use Rattle.reset_model.specs.Configuration.{Configuration}
use Rattle.reset_model.specs.Planned.{Outcome, outcome_of}
use Rattle.reset_model.specs.Steps.{event_node}
use Rattle.reset_model.specs.declared.event.Event.{Event}
use Rattle.reset_model.specs.declared.event.Event.TheVariants.{Claim, Follow, Adopt, Request, Relay, Open, Join}
use Rattle.reset_model.specs.declared.event.Event.TheVariants.{Finish, Mend, Act}
use Rattle.reset_model.specs.declared.step.Reply.{Reply}
use Rattle.reset_model.specs.declared.step.Reply.TheVariants.{Applied, Complete}
use Rattle.history.specs.declared.entry.Entry.{Entry}
use Rattle.history.specs.declared.entry.Entry.TheVariants.{Step, Disturbed}
use Rattle.history.specs.declared.entry.Report.{Report}
use Rattle.history.specs.Entries.{entered}
use Rattle.history.specs.Reports.{latest_opening, outcome_reported, report_of, reported, reports_from, reports_of}
use Rattle.space_time_diagram.specs.Completions.{AreInTurn}

-- the latest opening is among the entries
opened_earlier : (i : ℕ) (back : List Entry) → IfSome (latest_opening i back) (λ position. position < length back + 1)
opened_earlier i [] = tt
opened_earlier i (Disturbed f ∷ back) = tt
opened_earlier i (Step e ∷ back) = by_event e (later (latest_opening i back) (opened_earlier i back))
  where
    later : (o : Option ℕ) → IfSome o (λ position. position < length back + 1)
        → IfSome o (λ position. position < suc (length back) + 1)
    later None earlier = tt
    later (Some position) earlier = omega (arith, earlier)

    by_test : (b : Bool) (o : Option ℕ) → IfSome o (λ position. position < suc (length back) + 1)
        → IfSome (cond b (Some (length back + 1)) o) (λ position. position < suc (length back) + 1)
    by_test true o earlier = omega arith
    by_test false o earlier = earlier

    by_event : (e : Event) → IfSome (latest_opening i back) (λ position. position < suc (length back) + 1)
        → IfSome (latest_opening i (Step e ∷ back)) (λ position. position < suc (length back) + 1)
    by_event (Claim k) earlier = earlier
    by_event (Follow k) earlier = earlier
    by_event (Adopt k j) earlier = earlier
    by_event (Request k) earlier = earlier
    by_event (Relay k j) earlier = earlier
    by_event (Open k) earlier = by_test (nat_eq k i) (latest_opening i back) earlier
    by_event (Join k) earlier = earlier
    by_event (Finish k) earlier = earlier
    by_event (Mend k) earlier = earlier
    by_event (Act k case with) earlier = earlier

module _ {L : Type 0} (app : App L) (from_text : List ℕ → Option L) (last : ℕ) where
  -- later reports, that are in turn from any position up to this on
  abbrev GoOn : ℕ → List Report → Type 0
  GoOn here more = (n : ℕ) → n ≤ here → AreInTurn n last more

  outcome_in_turn : (o : Outcome L) (opened : Option ℕ) (here n : ℕ) (more : List Report) → n < here → here ≤ last
      → IfSome opened (λ position. position < here) → GoOn here more
      → AreInTurn n last (outcome_reported o opened here ++ more)
  outcome_in_turn (Err f) opened here n more low within earlier later = later n (omega (arith, low))
  outcome_in_turn (Ok done) opened here n more low within earlier later = by_reply done.1
    where
      by_reply : (reply : Reply) → AreInTurn n last (reported reply opened here ++ more)
      by_reply Applied = later n (omega (arith, low))
      by_reply (Complete session) = ((low, within, earlier), later here (omega arith))

  entry_in_turn : (c : Configuration L) (back : List Entry) (entry : Entry) (n : ℕ) (more : List Report)
      → n ≤ length back → length back + 1 ≤ last → GoOn (length back + 1) more → AreInTurn n last (report_of app c back entry ++ more)
  entry_in_turn c back (Step e) n more low within later =
      outcome_in_turn (outcome_of app c e) (latest_opening (event_node e) back) (length back + 1) n more
      (omega (arith, low)) within (opened_earlier (event_node e) back) later
  entry_in_turn c back (Disturbed f) n more low within later = later n (omega (arith, low))

  from_in_turn : (es : List Entry) (c : Configuration L) (back : List Entry) (n : ℕ) → n ≤ length back
      → length back + length es ≤ last → AreInTurn n last (reports_from app from_text c back es)
  unfolding reports_from
  from_in_turn [] c back n low within = tt
  from_in_turn (e ∷ es) c back n low within =
      entry_in_turn c back e n _ low (omega (arith, within))
      (by_entry (λ after m high. from_in_turn es after (e ∷ back) m (omega (arith, high)) (omega (arith, within)))
      (entered app from_text c e))
    where
      by_entry : ((after : Configuration L) → GoOn (length back + 1) (reports_from app from_text after (e ∷ back) es))
          → (o : Option (Configuration L))
          → GoOn (length back + 1) (option_map_or (λ after. reports_from app from_text after (e ∷ back) es) o [])
      by_entry later (Some after) = later after
      by_entry later None = λ m high. tt

-- the reports are of these entries, and in turn
pub reports_in_turn : {L : Type 0} (app : App L) (from_text : List ℕ → Option L) (c : Configuration L) (es : List Entry)
    → AreInTurn 0 (length es) (reports_of app from_text c es)
reports_in_turn app from_text c es = from_in_turn app from_text (length es) es c [] 0 (omega arith) (omega arith)
