-- One entry more of what was played.
use Rattle.std.proofs.Common.{◌≡◌, ℕ, suc, ◌+◌, ◌≤◌, ◌<◌, ◌==◌, true, false, not, if◌then◌else◌, List, [], ◌∷◌, ◌++◌}
use Rattle.std.proofs.Common.{length, position, Option, Some, None, Ok, Err, is_some, refl, ap, subst, sym, ◌∙◌, arith}
use Rattle.std.proofs.Common.{append_assoc, append-nil, take, drop, slice_index_or, add-one, ◌≢◌}
use Rattle.std.specs.Borrow.{Bor}
use Rattle.std.proofs.Math.Seq.{split_at, take-suc}
use Rattle.std.proofs.lemmas.List.{length-append, length-take}
use Rattle.std.specs.Option.{option_and_then, option_map_or}
use Rattle.app_interface.specs.Application.{App}
use Rattle.reset_model.specs.declared.event.Event.{Event}
use Rattle.reset_model.specs.declared.event.Event.TheVariants.{Claim, Follow, Adopt, Request, Relay, Open, Join}
use Rattle.reset_model.specs.declared.event.Event.TheVariants.{Finish, Mend, Act}
use Rattle.reset_model.specs.declared.step.Reply.{Reply}
use Rattle.reset_model.specs.Configuration.{Configuration}
use Rattle.reset_model.specs.Planned.{outcome_of, planned, written}
use Rattle.reset_model.specs.View.{view_of}
use Rattle.reset_model.specs.declared.step.StepRefusal.TheVariants.{StrangeNode}
use Rattle.reset_model.proofs.NodePositions.{a_node}
use Rattle.reset_model.proofs.Positions.{list_any-position}
use Rattle.topology.specs.Graph.{Graph, IsGraph, is_node}
use Rattle.topology.proofs.Membership.{Contains-has}
use Rattle.reset_model.specs.Steps.{event_node}
use Rattle.fault_inject.specs.Effects.{injected}
use Rattle.fault_inject.specs.declared.fault.Fault.{Fault}
use Rattle.history.specs.declared.entry.Entry.{Entry}
use Rattle.history.specs.declared.entry.Entry.TheVariants.{Step, Disturbed}
use Rattle.history.specs.declared.entry.Report.{Report}
use Rattle.history.specs.declared.openings.Openings.{Openings}
use Rattle.history.specs.declared.entry.VerifyFault.TheVariants.{NotEnabledAt}
use Rattle.history.specs.declared.player.PlayFault.{PlayFault}
use Rattle.history.specs.declared.player.PlayFault.TheVariants.{Refused, NoMemory}
use Rattle.history.specs.Entries.{IsFirstRefused, IsRefusal, entered, replayed}
use Rattle.history.specs.Played.{IsPlayed, IsStoppedBy, IsWithin, opened_by, recent, told, told_of, verify_fault_of}
use Rattle.history.specs.Reports.{latest_opening, report_of, reported, reports_from}

pub recent_snoc : (before es : List Entry) (e : Entry) → recent before (es ++ e ∷ []) ≡ e ∷ recent before es
recent_snoc before [] e = refl
recent_snoc before (x ∷ es) e = recent_snoc (x ∷ before) es e

pub recent_length : (before es : List Entry) → length (recent before es) ≡ length before + length es
recent_length before [] = omega arith
recent_length before (x ∷ es) = omega (arith, recent_length (x ∷ before) es)

pub latest_after : (i : ℕ) (e : Event) (before : List Entry) → latest_opening i (Step e ∷ before)
    ≡ opened_by e i (length before + 1) (latest_opening i before)
latest_after i (Claim k) before = refl
latest_after i (Follow k) before = refl
latest_after i (Adopt k j) before = refl
latest_after i (Request k) before = refl
latest_after i (Relay k j) before = refl
latest_after i (Open k) before = refl
latest_after i (Join k) before = refl
latest_after i (Finish k) before = refl
latest_after i (Mend k) before = refl
latest_after i (Act k case with) before = refl

module _ {L : Type 0} (app : App L) (from_text : List ℕ → Option L) where
  pub replayed_nil : (c : Configuration L) → replayed app from_text c [] ≡ Some c
  unfolding replayed
  replayed_nil c = refl

  pub replayed_snoc : (c d left : Configuration L) (es : List Entry) (e : Entry) → replayed app from_text c es
      ≡ Some d → entered app from_text d e ≡ Some left
      → replayed app from_text c (es ++ e ∷ []) ≡ Some left
  unfolding replayed
  replayed_snoc c d left [] e h k = let same : c ≡ d = cc in rw (same, k) refl
  replayed_snoc c d left (x ∷ es) e h k =
      elim (entered app from_text c x) as (λ o. option_and_then (λ after. replayed app from_text after es) o ≡ Some d
      → option_and_then (λ after. replayed app from_text after (es ++ e ∷ [])) o
      ≡ Some left) [ None ↦ λ none. cc | Some a ↦ λ rest. replayed_snoc a d left es e rest k ] h

  pub reports_snoc : (c d left : Configuration L) (before es : List Entry) (e : Entry)
      → replayed app from_text c es ≡ Some d → entered app from_text d e ≡ Some left
      → reports_from app from_text c before (es ++ e ∷ []) ≡ reports_from app from_text c before es ++ report_of app
      d (recent before es) e
  unfolding replayed reports_from
  reports_snoc c d left before [] e h k = let same : c ≡ d = cc in rw (same, k) (append-nil (report_of app d before e))
  reports_snoc c d left before (x ∷ es) e h k =
      elim (entered app from_text c x) as (λ o. option_and_then (λ after. replayed app from_text after es) o ≡ Some d
      → report_of app c before x ++ option_map_or (λ after. reports_from app from_text after (x ∷ before) (es ++ e ∷
      [])) o []
      ≡ (report_of app c before x ++ option_map_or (λ after. reports_from app from_text after (x ∷ before) es) o [])
      ++ report_of app d (recent (x ∷ before) es) e) [
        | None ↦ λ none. cc
        | Some a ↦ λ rest. ap (λ rs. report_of app c before x ++ rs) (reports_snoc a d left (x ∷ before) es e rest k)
            ∙ sym (append_assoc (report_of app c before x) (reports_from app from_text a (x ∷ before) es) (report_of
            app d (recent (x ∷ before) es) e))
      ] h

  pub reports_nil : (c : Configuration L) (before : List Entry) → reports_from app from_text c before [] ≡ []
  unfolding reports_from
  reports_nil c before = refl

  pub played_none : (c : Configuration L) (t : Openings) → ((k : ℕ) → told t k ≡ None) → IsWithin t 0
      → IsPlayed app from_text c [] c t []
  played_none c t none within = record {
    replay = replayed_nil c;
    openings = λ i k found. none k;
    within = within;
    reports = sym (reports_nil c []);
  }

  entered_step : (d left : Configuration L) (e : Event) (reply : Reply) → outcome_of app d e ≡ Ok (left, reply)
      → entered app from_text d (Step e) ≡ Some left
  entered_step d left e reply is = rw is refl

  entered_fault : (d left : Configuration L) (f : Fault) → injected app from_text d f ≡ Ok left
      → entered app from_text d (Disturbed f) ≡ Some left
  entered_fault d left f is = rw is refl

  -- the node of a step is up
  step_up : (d left : Configuration L) (e : Event) (reply : Reply) → outcome_of app d e ≡ Ok (left, reply)
      → is_node d.graph (event_node e) ≡ true
  step_up d left e reply is =
      elim (is_node d.graph (event_node e)) as (λ b. (if not b then Err StrangeNode else written d
      (event_node e) (planned app (view_of app d (event_node e)) e)) ≡ Ok (left, reply) → b ≡ true)
      [ false ↦ λ err. cc | true ↦ λ ok. refl ] is

  -- so it is one of the identifiers
  step_found : (d left : Configuration L) (e : Event) (reply : Reply) → IsGraph d.graph
      → outcome_of app d e ≡ Ok (left, reply) → is_some (position (λ i. i == event_node e) d.graph.ids) ≡ true
  step_found d left e reply graph is =
      sym (list_any-position d.graph.ids (event_node e))
      ∙ a_node d.graph.ids (event_node e)
      (graph.within (event_node e) (Contains-has d.graph.nodes (event_node e) (step_up d left e reply is)))

  pub played_step : (c d left : Configuration L) (es : List Entry) (t t' : Openings) (rs rs' : List Report) (e :
      Event) (reply : Reply) (position_of : ℕ)
      → IsPlayed app from_text c es d t rs → position_of ≡ length es + 1
      → outcome_of app d e ≡ Ok (left, reply) → left.graph ≡ d.graph → IsGraph left.graph
      → rs' ≡ rs ++ reported reply (told_of t left.graph.ids (event_node e)) position_of
      → ((n i k : ℕ) → IsWithin t n → n < position_of → position (λ j. j == i) left.graph.ids ≡ Some k → told t' k
      ≡ opened_by e i position_of (told t k))
      → ((n : ℕ) → IsWithin t n → n ≤ position_of → IsWithin t' position_of)
      → IsPlayed app from_text c (es ++ Step e ∷ []) left t' rs'
  played_step c d left es t t' rs rs' e reply at played here is same graph told_reports opened within =
      let length_is : length (es ++ Step e ∷ []) ≡ at = length-append es (Step e ∷ []) ∙ sym here in
      let recent_is : length (recent [] es) ≡ length es = omega (arith, recent_length [] es) in
      let entry = entered_step d left e reply is in
      record {
        replay = replayed_snoc c d left es (Step e) played.replay entry;
        openings = λ i k found.
            opened (length es) i k played.within (omega (arith, here)) found
            ∙ ap (λ o. opened_by e i at o) (played.openings i k (ap (λ (g : Graph). position (λ j. j == i) g.ids)
            (sym same) ∙ found))
            ∙ ap (λ n. opened_by e i n (latest_opening i (recent [] es))) (here ∙ ap (λ n. n + 1) (sym recent_is))
            ∙ sym (latest_after i e (recent [] es))
            ∙ ap (latest_opening i) (sym (recent_snoc [] es (Step e)));
        within = rw length_is (within (length es) played.within (omega (arith, here)));
        reports =
            told_reports
            ∙ (let node_is = step_found d left e reply (subst IsGraph same graph) is in
            let opening = told_found t d.graph.ids (event_node e) (recent [] es) node_is (played.openings (event_node
            e)) in
            rw (same, opening, here, ← recent_is, played.reports) (rw (
              reports_snoc c d left [] es (Step e)
                  played.replay entry,
              is,
            ) refl));
      }
    where
      told_found : (t : Openings) (ids : List ℕ) (i : ℕ) (before : List Entry)
          → is_some (position (λ j. j == i) ids) ≡ true
          → ((k : ℕ) → position (λ j. j == i) ids ≡ Some k → told t k ≡ latest_opening i before) → told_of t ids i
          ≡ latest_opening i before
      told_found t ids i before =
          elim (position (λ j. j == i) ids) as (λ o. is_some o ≡ true → ((k : ℕ) → o ≡ Some k → told t k
          ≡ latest_opening i before) → option_and_then (told t) o ≡ latest_opening i before)
          [ None ↦ λ none told_is. cc | Some k ↦ λ some told_is. told_is k refl ]

  pub played_fault : (c d left : Configuration L) (es : List Entry) (t t' : Openings) (rs : List Report) (f : Fault)
      (position_of : ℕ)
      → IsPlayed app from_text c es d t rs → position_of ≡ length es + 1
      → injected app from_text d f ≡ Ok left
      → ((n k : ℕ) → IsWithin t n → n ≤ position_of → told t' k ≡ None)
      → ((n : ℕ) → IsWithin t n → n ≤ position_of → IsWithin t' position_of)
      → IsPlayed app from_text c (es ++ Disturbed f ∷ []) left t' rs
  played_fault c d left es t t' rs f at played here is none within =
      let length_is : length (es ++ Disturbed f ∷ []) ≡ at = length-append es (Disturbed f ∷ []) ∙ sym here in
      let entry = entered_fault d left f is in
      record {
        replay = replayed_snoc c d left es (Disturbed f) played.replay entry;
        openings = λ i k found. none (length es) k played.within (omega (arith, here))
            ∙ ap (latest_opening i) (sym (recent_snoc [] es (Disturbed f)));
        within = rw length_is (within (length es) played.within (omega (arith, here)));
        reports = played.reports ∙ sym (reports_snoc c d left [] es (Disturbed f) played.replay entry
            ∙ append-nil (reports_from app from_text c [] es));
      }

  -- one entry more of a list was played, after others
  pub played_more : (c left : Configuration L) (before es : List Entry) (i : ℕ) (x : Entry) (t : Openings) (rs : List
      Report) → i < length es → x ≡ slice_index_or es i x
      → IsPlayed app from_text c ((before ++ take i es) ++ x ∷ []) left t rs
      → IsPlayed app from_text c (before ++ take (i + 1) es) left t rs
  played_more c left before es i x t rs short is played =
      let taken : before ++ take (i + 1) es ≡ (before ++ take i es) ++ x ∷ [] =
      ap (λ l. before ++ l)
      (ap (λ k. take k es) (add-one i) ∙ take-suc es i x short ∙ ap (λ e. take i es ++ e ∷ []) (sym is))
      ∙ sym (append_assoc before (take i es) (x ∷ [])) in
      rw taken played

  -- an entry of a list that is refused after those before it
  first_refused : (c left : Configuration L) (before es : List Entry) (i at : ℕ) (x : Entry)
      → i < length es → x ≡ slice_index_or es i x
      → replayed app from_text c (before ++ take i es) ≡ Some left → entered app from_text left x ≡ None
      → at ≡ length before + i + 1 → IsRefusal app from_text c (before ++ es) at x left
  first_refused c left before es i at x short is played refused here = record {
    first = record {
      before = before ++ take i es;
      entry = x;
      rest = drop (suc i) es;
      left = left;
      split =
          ap (λ l. before ++ l) (split_at es i x short ∙ ap (λ e. take i es ++ e ∷ drop (suc i) es) (sym is))
          ∙ sym (append_assoc before (take i es) (x ∷ drop (suc i) es));
      allowed = played;
      refused = refused;
      place = omega (arith, here, length-take i es, length-append before (take i es), short);
    };
    entry_is = refl;
    left_is = refl;
  }

  pub stopped : (c left : Configuration L) (before es : List Entry) (i at : ℕ) (x : Bor Entry) (f : PlayFault)
      → i < length es → x.now ≡ slice_index_or es i x.now
      → replayed app from_text c (before ++ take i es) ≡ Some left
      → (f ≢ NoMemory → (f ≡ Refused at x) × (entered app from_text left x.now ≡ None))
      → at ≡ length before + i + 1 → IsStoppedBy app from_text c (before ++ es) left f
  stopped c left before es i at x (Refused place entry) short is played refused here =
      let why = refused (λ e. cc) in
      subst (IsStoppedBy app from_text c (before ++ es) left) (sym why.0)
      (first_refused c left before es i at x.now short is played why.1 here)
  stopped c left before es i at x NoMemory short is played refused here = tt

  -- an entry at which they stopped is the first that is refused
  pub named : (c left : Configuration L) (es : List Entry) (at : ℕ) (f : PlayFault) → verify_fault_of f ≡ NotEnabledAt at
      → IsStoppedBy app from_text c es left f → IsFirstRefused app from_text c es at
  named c left es at (Refused position x) is refusal =
      let same : position ≡ at = cc in subst (IsFirstRefused app from_text c es) same refusal.first
  named c left es at NoMemory is refusal = absurd (cc)
