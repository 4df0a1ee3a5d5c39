-- The reports of entries are the completions that they tell.
use Rattle.std.proofs.Common.{◌≡◌, ℕ, ◌+◌, List, [], ◌∷◌, ◌++◌, length, Contains, Option, Some, None, Ok, Err}
use Rattle.std.proofs.Common.{◌↔◌, ⊎_elim, slice_index_or, refl, sym, ap, subst, ◌∙◌, arith}
use Rattle.std.specs.Option.{option_and_then, option_map_or}
use Rattle.std.proofs.lemmas.List.Elements.{Contains-append_cases, Contains-append_left, Contains-append_right}
use Rattle.app_interface.specs.Application.{App}
use Rattle.reset_model.specs.Configuration.{Configuration}
use Rattle.reset_model.specs.Planned.{Outcome, outcome_of}
use Rattle.reset_model.specs.Steps.{event_node}
use Rattle.reset_model.specs.declared.event.Event.{Event}
use Rattle.reset_model.specs.declared.step.Reply.{Reply}
use Rattle.reset_model.specs.declared.step.Reply.TheVariants.{Applied, Complete}
use Rattle.history.specs.declared.entry.Entry.{Entry}
use Rattle.history.specs.declared.entry.Entry.TheVariants.{Step, Disturbed}
use Rattle.history.specs.declared.entry.Report.{Report}
use Rattle.history.specs.Entries.{entered, replayed}
use Rattle.history.specs.Played.{recent}
use Rattle.history.specs.Reports.{latest_opening, outcome_reported, report_of, reported, reports_from, reports_of}
use Rattle.history.specs.Stretches.{IsApplied, IsLatestOpening, IsReport}
use Rattle.history.proofs.LatestOpenings.{is_latest, latest_is}

none_there : {X : Type 0} (x : X) → Contains [] x → ⊥
none_there x there = omega (arith, there.1)

module _ {L : Type 0} (app : App L) (from_text : List ℕ → Option L) where
  -- the report tells an event that completed a session, where other entries came before c, the latest first
  record IsReportFrom (c : Configuration L) (back es : List Entry) (r : Report) : Type 0 where
    before : List Entry
    rest : List Entry
    event : Event
    here : Configuration L
    left : Configuration L
    split : es ≡ before ++ Step event ∷ rest
    place : r.finished ≡ length back + length before + 1
    allowed : replayed app from_text c before ≡ Some here
    outcome : outcome_of app here event ≡ Ok (left, Complete r.number)
    opened : r.opened ≡ latest_opening (event_node event) (recent back before)

  -- ---- each report tells one

  module _ (c : Configuration L) (back : List Entry) (r : Report) where
    first_told : (entry : Entry) (rest : List Entry) → Contains (report_of app c back entry) r
        → IsReportFrom c back (entry ∷ rest) r
    unfolding replayed
    first_told (Disturbed f) rest there = absurd (none_there r there)
    first_told (Step e) rest there = by_outcome (outcome_of app c e) refl there
      where
        opened : Option ℕ
        opened = latest_opening (event_node e) back

        by_reply : (left : Configuration L) (reply : Reply) → outcome_of app c e ≡ Ok (left, reply)
            → Contains (reported reply opened (length back + 1)) r → IsReportFrom c back (Step e ∷ rest) r
        by_reply left Applied is there = absurd (none_there r there)
        by_reply left (Complete session) is (k, short, at) =
            let at_0 : k ≡ 0 = omega (arith, short) in
            let same : record { number = session; opened = opened; finished = length back + 1 } ≡ r =
            subst (λ n. slice_index_or (reported (Complete session) opened (length back + 1)) n r ≡ r) at_0 at in
            record {
              before = [];
              rest = rest;
              event = e;
              here = c;
              left = left;
              split = refl;
              place = ap (λ (q : Report). q.finished) (sym same) ∙ omega arith;
              allowed = refl;
              outcome = is ∙ ap (λ (q : Report). Ok (left, Complete q.number)) same;
              opened = ap (λ (q : Report). q.opened) (sym same);
            }

        by_outcome : (o : Outcome L) → outcome_of app c e ≡ o
            → Contains (outcome_reported o opened (length back + 1)) r → IsReportFrom c back (Step e ∷ rest) r
        by_outcome (Ok done) is there = by_reply done.0 done.1 is there
        by_outcome (Err f) is there = absurd (none_there r there)

  told : (es : List Entry) (c : Configuration L) (back : List Entry) (r : Report)
      → Contains (reports_from app from_text c back es) r → IsReportFrom c back es r
  unfolding replayed reports_from
  told [] c back r there = absurd (none_there r there)
  told (e ∷ es) c back r there =
      ⊎_elim (λ first. first_told c back r e es first)
      (λ later. by_entry (λ after. told es after (e ∷ back) r) (entered app from_text c e) refl later)
      (Contains-append_cases (report_of app c back e) _ r there)
    where
      by_entry : ((after : Configuration L) → Contains (reports_from app from_text after (e ∷ back) es) r
          → IsReportFrom after (e ∷ back) es r) → (o : Option (Configuration L)) → entered app from_text c e ≡ o
          → Contains (option_map_or (λ after. reports_from app from_text after (e ∷ back) es) o []) r
          → IsReportFrom c back (e ∷ es) r
      by_entry later None is there = absurd (none_there r there)
      by_entry later (Some after) is there =
          let more = later after there in
          record {
            before = e ∷ more.before;
            rest = more.rest;
            event = more.event;
            here = more.here;
            left = more.left;
            split = ap (λ xs. e ∷ xs) more.split;
            place = omega (arith, more.place);
            allowed = ap (option_and_then (λ after. replayed app from_text after more.before)) is ∙ more.allowed;
            outcome = more.outcome;
            opened = more.opened;
          }

  -- ---- and each completion is told

  contained : (before rest : List Entry) (e : Event) (c here left : Configuration L) (back : List Entry) (r : Report)
      → replayed app from_text c before ≡ Some here → outcome_of app here e ≡ Ok (left, Complete r.number)
      → r.finished ≡ length back + length before + 1
      → r.opened ≡ latest_opening (event_node e) (recent back before)
      → Contains (reports_from app from_text c back (before ++ Step e ∷ rest)) r
  unfolding replayed reports_from
  contained [] rest e c here left back r allowed outcome place opened =
      let same : c ≡ here = cc in
      let completes : outcome_of app c e ≡ Ok (left, Complete r.number) = ap (λ d. outcome_of app d e) same ∙ outcome in
      let first : reported (Complete r.number) r.opened r.finished ≡ report_of app c back (Step e) =
      rw (completes, ← opened)
      (ap (λ n. record { number = r.number; opened = r.opened; finished = n } ∷ []) (place ∙ omega arith)) in
      let one : Contains (reported (Complete r.number) r.opened r.finished) r = (0, omega arith, refl) in
      Contains-append_left (report_of app c back (Step e)) _ r (subst (λ rs. Contains rs r) first one)
  contained (x ∷ before) rest e c here left back r allowed outcome place opened =
      Contains-append_right (report_of app c back x) _ r
      (by_entry
      (λ after allowed.
      contained before rest e after here left (x ∷ back) r allowed outcome (omega (arith, place)) opened)
      (entered app from_text c x) allowed)
    where
      by_entry : ((after : Configuration L) → replayed app from_text after before ≡ Some here
          → Contains (reports_from app from_text after (x ∷ back) (before ++ Step e ∷ rest)) r)
          → (o : Option (Configuration L))
          → option_and_then (λ after. replayed app from_text after before) o ≡ Some here
          → Contains
          (option_map_or (λ after. reports_from app from_text after (x ∷ back) (before ++ Step e ∷ rest)) o []) r
      by_entry later None is = absurd (cc)
      by_entry later (Some after) is = later after is

  -- ---- from the opening on

  pub reports_are : (opening : Configuration L) (es : List Entry) (r : Report)
      → (Contains (reports_of app from_text opening es) r ↔ IsReport app from_text opening es r)
  reports_are opening es r = (is_report, is_told)
    where
      is_report : Contains (reports_of app from_text opening es) r → IsReport app from_text opening es r
      is_report there =
          let one = told es opening [] r there in
          record {
            event = one.event;
            left = one.left;
            told = record {
              before = one.before;
              rest = one.rest;
              here = one.here;
              split = one.split;
              place = omega (arith, one.place);
              allowed = one.allowed;
              outcome = one.outcome;
            };
            opened = subst (IsLatestOpening (event_node one.event) one.before) (sym one.opened)
                (is_latest (event_node one.event) one.before);
          }

      is_told : IsReport app from_text opening es r → Contains (reports_of app from_text opening es) r
      is_told one =
          subst (λ xs. Contains (reports_of app from_text opening xs) r) (sym one.told.split)
          (contained one.told.before one.told.rest one.event opening one.told.here one.left [] r one.told.allowed
          one.told.outcome (omega (arith, one.told.place))
          (sym (latest_is (event_node one.event) one.told.before r.opened one.opened)))

  -- each completion has its report
  pub has_report : (opening left : Configuration L) (es : List Entry) (position session : ℕ) (event : Event)
      → IsApplied app from_text opening es position event (Complete session) left
      → (r : Report) × Contains (reports_of app from_text opening es) r × (r.number ≡ session) × (r.finished ≡ position)
  has_report opening left es position session event told =
      let r : Report = record {
        number = session;
        opened = latest_opening (event_node event) (recent [] told.before);
        finished = position;
      } in
      let one : IsReport app from_text opening es r = record {
        event = event;
        left = left;
        told = told;
        opened = is_latest (event_node event) told.before;
      } in
      (r, (reports_are opening es r).1 one, refl, refl)
