-- The receipts that reports tell are those of the entries, where these are played.
use Rattle.std.proofs.Common.{◌≡◌, ℕ, ◌+◌, ◌<◌, ◌≤◌, ◌==◌, Bool, true, false, List, [], ◌∷◌, ◌++◌, length, Option}
use Rattle.std.proofs.Common.{Some, None, Ok, Err, if◌then◌else◌, drop, filter, get_or, refl, ap, ap₂, sym, ◌∙◌, arith}
use Rattle.std.proofs.Common.{append_assoc, append-nil, nat_lt, slice_get, ◌≢◌, ◌-◌, ◌⊎◌, inl, inr}
use Rattle.std.proofs.lemmas.List.Elements.{filter-append}
use Rattle.std.specs.Option.{option_and_then, option_map_or}
use Rattle.std.proofs.lemmas.Bool.{eq-eqb}
use Rattle.std.proofs.lemmas.Bool.Decides.{eqb_tells}
use Rattle.std.proofs.lemmas.List.{at_drop_more, drop_all}
use Rattle.std.proofs.lemmas.Option.{slice_get-get_or}
use Rattle.app_interface.specs.Application.{App}
use Rattle.reset_model.specs.Configuration.{Configuration}
use Rattle.reset_model.specs.Planned.{Outcome, outcome_of}
use Rattle.reset_model.specs.Steps.{event_node}
use Rattle.reset_model.specs.declared.event.Event.{Event}
use Rattle.reset_model.specs.declared.event.Event.TheVariants.{Claim}
use Rattle.reset_model.specs.declared.step.Reply.{Reply}
use Rattle.reset_model.specs.declared.step.Reply.TheVariants.{Applied, Complete}
use Rattle.history.specs.declared.entry.Entry.{Entry}
use Rattle.history.specs.declared.entry.Entry.TheVariants.{Step, Disturbed}
use Rattle.history.specs.declared.entry.Receipt.{Receipt}
use Rattle.history.specs.declared.entry.Report.{Report}
use Rattle.history.specs.Entries.{entered, left_by_step, replayed}
use Rattle.history.specs.Reports.{latest_opening, outcome_reported, reported, reports_from}
use Rattle.node_threads.specs.Seats.{outcome_receipts, receipts_from}
use Rattle.node_threads.specs.Told.{left_after, left_by, receipt_told, receipts_told, reply_told, step_at, step_of}

-- the first of the reports, if there is one, is of a later position
abbrev IsLater : ℕ → List Report → Type 0
IsLater p [] = Unit {0}
IsLater p (r ∷ rs) = p < r.finished

pub other_number : (a b : ℕ) → b < a → (a == b) ≡ false
other_number a b less = at (eqb_tells a b)
  where
    at : (((a == b) ≡ true) × (a ≡ b)) ⊎ (((a == b) ≡ false) × (a ≢ b)) → (a == b) ≡ false
    at (inl same) = absurd (omega (arith, same.1, less))
    at (inr other) = other.0

-- then it tells nothing of this one
not_told : (p : ℕ) (rs : List Report) → IsLater p rs → (reply_told rs p ≡ Applied) × (left_after rs p ≡ rs)
not_told p [] later = (refl, refl)
not_told p (r ∷ rs) later =
    let apart : (r.finished == p) ≡ false = other_number r.finished p later in
    (ap (λ b. if b then Complete r.number else Applied) apart, ap (λ b. if b then rs else r ∷ rs) apart)

-- and a report of this position is told
told_first : (p : ℕ) (r : Report) (rs : List Report) → r.finished ≡ p
    → (reply_told (r ∷ rs) p ≡ Complete r.number) × (left_after (r ∷ rs) p ≡ rs)
told_first p r rs here =
    let same : (r.finished == p) ≡ true = eq-eqb r.finished p here in
    (ap (λ b. if b then Complete r.number else Applied) same, ap (λ b. if b then rs else r ∷ rs) same)

module _ {L : Type 0} (app : App L) (from_text : List ℕ → Option L) where
  -- the reports of entries are of later positions than those before
  later_reply : (reply : Reply) (opened : Option ℕ) (p n : ℕ) (rest : List Report) → p ≤ n → IsLater p rest
      → IsLater p (reported reply opened (n + 1) ++ rest)
  later_reply Applied opened p n rest within later = later
  later_reply (Complete s) opened p n rest within later = omega (arith, within)

  later_outcome : (o : Outcome L) (opened : Option ℕ) (p n : ℕ) (rest : List Report) → p ≤ n → IsLater p rest
      → IsLater p (outcome_reported o opened (n + 1) ++ rest)
  later_outcome (Ok done) opened p n rest within later = later_reply done.1 opened p n rest within later
  later_outcome (Err f) opened p n rest within later = later

  later_rest : (o : Option (Configuration L)) (F : Configuration L → List Report) (p : ℕ)
      → ((after : Configuration L) → IsLater p (F after)) → IsLater p (option_map_or F o [])
  later_rest None F p later = tt
  later_rest (Some after) F p later = later after

  later_reports : (c : Configuration L) (before es : List Entry) (p : ℕ) → p ≤ length before
      → IsLater p (reports_from app from_text c before es)
  unfolding reports_from
  later_reports c before [] p within = tt
  later_reports c before (Step e ∷ es) p within =
      later_outcome (outcome_of app c e) (latest_opening (event_node e) before) p (length before) _ within (later_rest
      (entered app from_text c (Step e)) (λ after. reports_from app from_text after (Step e ∷ before) es) p
      (λ after. later_reports after (Step e ∷ before) es p (omega (arith, within))))
  later_reports c before (Disturbed f ∷ es) p within =
      later_rest (entered app from_text c (Disturbed f))
      (λ after. reports_from app from_text after (Disturbed f ∷ before) es) p
      (λ after. later_reports after (Disturbed f ∷ before) es p (omega (arith, within)))

  -- a step, and what is told of it
  step_told : (reply : Reply) (rs : List Report) (opened : Option ℕ) (e : Event) (es : List Entry) (n m : ℕ)
      (xs : List Receipt) → n ≡ m → IsLater (n + 1) rs → receipts_told rs (n + 1) es ≡ xs
      → receipts_told (reported reply opened (m + 1) ++ rs) n (Step e ∷ es)
      ≡ record { position = n + 1; event = e; reply = reply } ∷ xs
  step_told Applied rs opened e es n m xs at later rest =
      let none = not_told (n + 1) rs later in
      ap₂ (λ reply left. record { position = n + 1; event = e; reply = reply } ∷ receipts_told left (n + 1) es) none.0
      none.1 ∙ ap (λ more. record { position = n + 1; event = e; reply = Applied } ∷ more) rest
  step_told (Complete s) rs opened e es n m xs at later rest =
      let one = told_first (n + 1) (record { number = s; opened = opened; finished = m + 1 }) rs (omega (arith, at)) in
      ap₂ (λ reply left. record { position = n + 1; event = e; reply = reply } ∷ receipts_told left (n + 1) es) one.0
      one.1 ∙ ap (λ more. record { position = n + 1; event = e; reply = Complete s } ∷ more) rest

  pub told_receipts : (c left : Configuration L) (before es : List Entry) (n : ℕ) → n ≡ length before
      → replayed app from_text c es ≡ Some left
      → receipts_told (reports_from app from_text c before es) n es ≡ receipts_from app from_text c n es
  unfolding replayed reports_from receipts_from
  told_receipts c left before [] n at played = refl
  told_receipts c left before (Disturbed f ∷ es) n at played =
      elim (entered app from_text c (Disturbed f)) as (λ o. option_and_then (λ after. replayed app from_text after es) o
      ≡ Some left
      → receipts_told (option_map_or (λ after. reports_from app from_text after (Disturbed f ∷ before) es) o []) (n + 1)
      es ≡ option_map_or (λ after. receipts_from app from_text after (n + 1) es) o []) [
        | None ↦ λ none. absurd (cc)
        | Some after ↦ λ rest. told_receipts after left (Disturbed f ∷ before) es (n + 1) (omega (arith, at)) rest
      ] played
  told_receipts c left before (Step e ∷ es) n at played =
      elim (outcome_of app c e) as (λ o. option_and_then (λ after. replayed app from_text after es) (left_by_step o)
      ≡ Some left
      → receipts_told (outcome_reported o (latest_opening (event_node e) before) (length before + 1)
      ++ option_map_or (λ after. reports_from app from_text after (Step e ∷ before) es) (left_by_step o) []) n
      (Step e ∷ es)
      ≡ outcome_receipts e (n + 1) o
      ++ option_map_or (λ after. receipts_from app from_text after (n + 1) es) (left_by_step o) []) [
        | Err f ↦ λ none. absurd (cc)
        | Ok done ↦ λ rest. step_told done.1 (reports_from app from_text done.0 (Step e ∷ before) es)
            (latest_opening (event_node e) before) e es n (length before) _ at
            (later_reports done.0 (Step e ∷ before) es (n + 1) (omega (arith, at)))
            (told_receipts done.0 left (Step e ∷ before) es (n + 1) (omega (arith, at)) rest)
      ] played

-- ---- one entry more

pub told_more : (q : Receipt → Bool) (items : List Receipt) (rs : List Report) (es : List Entry) (i : ℕ) (d : Entry)
    (all : List Receipt) → i < length es → items ++ filter q (receipts_told rs i (drop i es)) ≡ all
    → (items ++ filter q (receipt_told rs (i + 1) (get_or es i d)))
    ++ filter q (receipts_told (left_by rs (i + 1) (get_or es i d)) (i + 1) (drop (i + 1) es)) ≡ all
told_more q items rs es i d all short so_far =
    let x = get_or es i d in
    let here = receipt_told rs (i + 1) x in
    let rest = receipts_told (left_by rs (i + 1) x) (i + 1) (drop (i + 1) es) in
    append_assoc items (filter q here) (filter q rest)
    ∙ ap (λ ys. items ++ ys) (sym (filter-append q here rest))
    ∙ sym (at_drop_more (λ xs. items ++ filter q (receipts_told rs i xs)) es i d short) ∙ so_far

pub step_is : (rs : List Report) (position : ℕ) (x : Entry) (e : Event) → step_of x ≡ Some e
    → (receipt_told rs position x ≡ record { position = position; event = e; reply = reply_told rs position } ∷ [])
    × (left_by rs position x ≡ left_after rs position)
step_is rs position (Step k) e is =
    let same : k ≡ e = cc in
    (ap (λ j. record { position = position; event = j; reply = reply_told rs position } ∷ []) same, refl)
step_is rs position (Disturbed f) e is = absurd (cc)

pub fault_is : (rs : List Report) (position : ℕ) (x : Entry) → step_of x ≡ None
    → (receipt_told rs position x ≡ []) × (left_by rs position x ≡ rs)
fault_is rs position (Step k) is = absurd (cc)
fault_is rs position (Disturbed f) is = (refl, refl)

-- ---- the walk over the entries of a book

-- what was told of the entries before the index, and what is left to tell, make all that is told after the mark
pub record AreTold (mark : ℕ) (all items : List Receipt) (rs : List Report) (next i : ℕ) (es : List Entry) :
    Type 0 where
  pub whole : items ++ filter (λ r. nat_lt mark r.position) (receipts_told (drop next rs) i (drop i es)) ≡ all
  pub within : next ≤ length rs

step_here : (es : List Entry) (i : ℕ) (d : Entry) (found : Option Event) → i < length es → found ≡ step_at es (i + 1)
    → step_of (get_or es i d) ≡ found
step_here es i d found short is =
    let at : i + 1 - 1 ≡ i = omega arith in
    let apart : (i + 1 == 0) ≡ false = other_number (i + 1) 0 (omega arith) in
    sym (is ∙ ap (λ b. option_and_then step_of (if b then None else slice_get es (i + 1 - 1))) apart
    ∙ ap (λ k. option_and_then step_of (slice_get es k)) at
    ∙ ap (option_and_then step_of) (slice_get-get_or es i d short))

pub told_step : (mark : ℕ) (all items more : List Receipt) (rs : List Report) (next after i : ℕ) (es : List Entry)
    (e : Event) (reply : Reply) → i < length es → Some e ≡ step_at es (i + 1)
    → reply ≡ reply_told (drop next rs) (i + 1) → drop after rs ≡ left_after (drop next rs) (i + 1) → after ≤ length rs
    → more ≡ items ++ filter (λ r. nat_lt mark r.position) (record { position = i + 1; event = e; reply = reply } ∷ [])
    → AreTold mark all items rs next i es → AreTold mark all more rs after (i + 1) es
told_step mark all items more rs next after i es e reply short is replied left within put so_far =
    let q = λ (r : Receipt). nat_lt mark r.position in
    let d = Step e in
    let x = get_or es i d in
    let told = step_is (drop next rs) (i + 1) x e (step_here es i d (Some e) short is) in
    let one : List Receipt = record { position = i + 1; event = e; reply = reply } ∷ [] in
    let same : one ≡ receipt_told (drop next rs) (i + 1) x =
    ap (λ reply. record { position = i + 1; event = e; reply = reply } ∷ []) replied ∙ sym told.0 in
    record {
      whole = ap₂ (λ items rest. items ++ filter q (receipts_told rest (i + 1) (drop (i + 1) es)))
          (put ∙ ap (λ xs. items ++ filter q xs) same) (left ∙ sym told.1)
          ∙ told_more q items (drop next rs) es i d all short so_far.whole;
      within = within;
    }

pub told_fault : (mark : ℕ) (all items : List Receipt) (rs : List Report) (next i : ℕ) (es : List Entry)
    → i < length es → None ≡ step_at es (i + 1)
    → AreTold mark all items rs next i es → AreTold mark all items rs next (i + 1) es
told_fault mark all items rs next i es short is so_far =
    let q = λ (r : Receipt). nat_lt mark r.position in
    let d = Step (Claim 0) in
    let x = get_or es i d in
    let told = fault_is (drop next rs) (i + 1) x (step_here es i d None short is) in
    record {
      whole = ap₂ (λ items rest. items ++ filter q (receipts_told rest (i + 1) (drop (i + 1) es)))
          (sym (append-nil items) ∙ ap (λ xs. items ++ filter q xs) (sym told.0)) (sym told.1)
          ∙ told_more q items (drop next rs) es i d all short so_far.whole;
      within = so_far.within;
    }

pub told_all : (mark : ℕ) (all items : List Receipt) (rs : List Report) (next i : ℕ) (es : List Entry)
    → length es ≤ i → AreTold mark all items rs next i es → items ≡ all
told_all mark all items rs next i es done so_far =
    let q = λ (r : Receipt). nat_lt mark r.position in
    sym (append-nil items)
    ∙ ap (λ xs. items ++ filter q (receipts_told (drop next rs) i xs)) (sym (drop_all i es done)) ∙ so_far.whole
