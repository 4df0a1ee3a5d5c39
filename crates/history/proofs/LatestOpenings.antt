-- Where the latest opening at a node is among entries, told from the latest entry on and told of the whole list.
use Rattle.std.proofs.Common.{◌≡◌, ℕ, ◌+◌, ◌≤◌, Bool, true, false, cond, if◌then◌else◌, List, [], ◌∷◌, ◌++◌}
use Rattle.std.proofs.Common.{length, Option, Some, refl, sym, ap, subst, ◌∙◌, arith}
use Rattle.std.proofs.Common.{append_assoc, append-nil}
use Rattle.std.proofs.lemmas.Bool.{eq-eqb, eqb-true, true≢false}
use Rattle.std.proofs.lemmas.List.{length-append, map-append}
use Rattle.reset_model.specs.Completion.{is_open_at, times}
use Rattle.reset_model.specs.declared.event.Event.{Event}
use Rattle.reset_model.specs.declared.event.Event.TheVariants.{Claim, Follow, Adopt, Request, Relay, Open, Join}
use Rattle.reset_model.specs.declared.event.Event.TheVariants.{Finish, Mend, Act}
use Rattle.history.specs.declared.entry.Entry.{Entry}
use Rattle.history.specs.declared.entry.Entry.TheVariants.{Step, Disturbed}
use Rattle.history.specs.Played.{opened_by, recent}
use Rattle.history.specs.Reports.{latest_opening}
use Rattle.history.specs.Stretches.{IsLatestOpening, latest, none, none_since, steps}
use Rattle.history.proofs.Plays.{latest_after, recent_length}

pub recent-append : (back xs ys : List Entry) → recent back (xs ++ ys) ≡ recent (recent back xs) ys
recent-append back [] ys = refl
recent-append back (x ∷ xs) ys = recent-append (x ∷ back) xs ys

-- ---- events that open nothing at the node

module _ (i : ℕ) where
  -- what the event makes of the latest opening, whether it is one at the node or not
  opened_by_test : (e : Event) (position : ℕ) (before : Option ℕ)
      → opened_by e i position before ≡ (if is_open_at i e then Some position else before)
  opened_by_test (Claim k) position before = refl
  opened_by_test (Follow k) position before = refl
  opened_by_test (Adopt k j) position before = refl
  opened_by_test (Request k) position before = refl
  opened_by_test (Relay k j) position before = refl
  opened_by_test (Open k) position before = refl
  opened_by_test (Join k) position before = refl
  opened_by_test (Finish k) position before = refl
  opened_by_test (Mend k) position before = refl
  opened_by_test (Act k case with) position before = refl

  latest_by_test : (e : Event) (back : List Entry) → latest_opening i (Step e ∷ back)
      ≡ (if is_open_at i e then Some (length back + 1) else latest_opening i back)
  latest_by_test e back = latest_after i e back ∙ opened_by_test e (length back + 1) (latest_opening i back)

  is_opening : (e : Event) → is_open_at i e ≡ true → e ≡ Open i
  is_opening (Claim k) is = absurd (true≢false (sym is))
  is_opening (Follow k) is = absurd (true≢false (sym is))
  is_opening (Adopt k j) is = absurd (true≢false (sym is))
  is_opening (Request k) is = absurd (true≢false (sym is))
  is_opening (Relay k j) is = absurd (true≢false (sym is))
  is_opening (Open k) is = ap Open (eqb-true k i is)
  is_opening (Join k) is = absurd (true≢false (sym is))
  is_opening (Finish k) is = absurd (true≢false (sym is))
  is_opening (Mend k) is = absurd (true≢false (sym is))
  is_opening (Act k case with) is = absurd (true≢false (sym is))

  none_of : (e : Event) (events : List Event) → times (is_open_at i) (e ∷ events) ≡ 0
      → (is_open_at i e ≡ false) × (times (is_open_at i) events ≡ 0)
  none_of e events is = by_test (is_open_at i e) is
    where
      by_test : (b : Bool) → cond b 1 0 + times (is_open_at i) events ≡ 0
          → (b ≡ false) × (times (is_open_at i) events ≡ 0)
      by_test true is = absurd (omega (arith, is))
      by_test false is = (refl, omega (arith, is))

  -- after events that open nothing at the node, the latest opening is the one before
  pub latest_skips : (events : List Event) (back : List Entry) → times (is_open_at i) events ≡ 0
      → latest_opening i (recent back (steps events)) ≡ latest_opening i back
  latest_skips [] back is = refl
  latest_skips (e ∷ events) back is =
      let parts = none_of e events is in
      latest_skips events (Step e ∷ back) parts.1 ∙ latest_by_test e back
      ∙ ap (λ b. if b then Some (length back + 1) else latest_opening i back) parts.0

  -- where the latest opening came before all of the events, they open nothing at the node
  pub unopened_since : (events : List Event) (back : List Entry)
      → ((position : ℕ) → latest_opening i (recent back (steps events)) ≡ Some position → position ≤ length back)
      → times (is_open_at i) events ≡ 0
  unopened_since [] back early = refl
  unopened_since (e ∷ events) back early =
      let later : times (is_open_at i) events ≡ 0 =
      unopened_since events (Step e ∷ back) (λ position is. omega (arith, early position is)) in
      by_test (is_open_at i e) (latest_skips events (Step e ∷ back) later ∙ latest_by_test e back) later
    where
      by_test : (b : Bool) → latest_opening i (recent back (steps (e ∷ events)))
          ≡ (if b then Some (length back + 1) else latest_opening i back)
          → times (is_open_at i) events ≡ 0 → cond b 1 0 + times (is_open_at i) events ≡ 0
      by_test true is later = absurd (omega (arith, early (length back + 1) is))
      by_test false is later = omega (arith, later)

  -- ---- the latest opening among entries is the one that is told from the latest entry on

  pub latest_is : (entries : List Entry) (o : Option ℕ) → IsLatestOpening i entries o
      → latest_opening i (recent [] entries) ≡ o
  latest_is entries o (latest before since is unopened) =
      ap (λ es. latest_opening i (recent [] es)) is
      ∙ ap (latest_opening i) (recent-append [] before (Step (Open i) ∷ steps since))
      ∙ latest_skips since (Step (Open i) ∷ recent [] before) unopened
      ∙ ap (λ b. if b then Some (length (recent [] before) + 1) else latest_opening i (recent [] before))
      (eq-eqb i i refl)
      ∙ ap Some (omega (arith, recent_length [] before))
  latest_is entries o (none_since before fault since is unopened) =
      ap (λ es. latest_opening i (recent [] es)) is
      ∙ ap (latest_opening i) (recent-append [] before (Disturbed fault ∷ steps since))
      ∙ latest_skips since (Disturbed fault ∷ recent [] before) unopened
  latest_is entries o (none since is unopened) =
      ap (λ es. latest_opening i (recent [] es)) is ∙ latest_skips since [] unopened

  -- ---- and there is one

  times-snoc : (since : List Event) (e : Event) → times (is_open_at i) since ≡ 0 → is_open_at i e ≡ false
      → times (is_open_at i) (since ++ e ∷ []) ≡ 0
  times-snoc [] e unopened other = ap (λ b. cond b 1 0 + 0) other
  times-snoc (x ∷ since) e unopened other =
      let parts = none_of x since unopened in
      ap (λ b. cond b 1 0 + times (is_open_at i) (since ++ e ∷ [])) parts.0
      ∙ omega (arith, times-snoc since e parts.1 other)

  goes_on : (entries before : List Entry) (first : Entry) (since : List Event) (e : Event)
      → entries ≡ before ++ first ∷ steps since
      → entries ++ Step e ∷ [] ≡ before ++ first ∷ steps (since ++ e ∷ [])
  goes_on entries before first since e is =
      ap (λ es. es ++ Step e ∷ []) is ∙ append_assoc before (first ∷ steps since) (Step e ∷ [])
      ∙ ap (λ es. before ++ first ∷ es) (sym (map-append (λ x. Step x) since (e ∷ [])))

  still_latest : (entries : List Entry) (e : Event) (o : Option ℕ) → is_open_at i e ≡ false
      → IsLatestOpening i entries o → IsLatestOpening i (entries ++ Step e ∷ []) o
  still_latest entries e o other (latest before since is unopened) =
      latest before (since ++ e ∷ []) (goes_on entries before (Step (Open i)) since e is)
      (times-snoc since e unopened other)
  still_latest entries e o other (none_since before fault since is unopened) =
      none_since before fault (since ++ e ∷ []) (goes_on entries before (Disturbed fault) since e is)
      (times-snoc since e unopened other)
  still_latest entries e o other (none since is unopened) =
      none (since ++ e ∷ [])
      (ap (λ es. es ++ Step e ∷ []) is ∙ sym (map-append (λ x. Step x) since (e ∷ [])))
      (times-snoc since e unopened other)

  one_more : (entries back : List Entry) (entry : Entry) → length back ≡ length entries
      → IsLatestOpening i entries (latest_opening i back)
      → IsLatestOpening i (entries ++ entry ∷ []) (latest_opening i (entry ∷ back))
  one_more entries back (Disturbed fault) same so_far = none_since entries fault [] refl refl
  one_more entries back (Step e) same so_far = by_test (is_open_at i e) refl
    where
      by_test : (b : Bool) → is_open_at i e ≡ b
          → IsLatestOpening i (entries ++ Step e ∷ []) (latest_opening i (Step e ∷ back))
      by_test true is =
          let told : Some (length entries + 1) ≡ latest_opening i (Step e ∷ back) =
          ap (λ n. Some (n + 1)) (sym same)
          ∙ ap (λ b. if b then Some (length back + 1) else latest_opening i back) (sym is)
          ∙ sym (latest_by_test e back) in
          subst (λ o. IsLatestOpening i (entries ++ Step e ∷ []) o) told
          (latest entries [] (ap (λ x. entries ++ Step x ∷ []) (is_opening e is)) refl)
      by_test false is =
          let told : latest_opening i back ≡ latest_opening i (Step e ∷ back) =
          ap (λ b. if b then Some (length back + 1) else latest_opening i back) (sym is)
          ∙ sym (latest_by_test e back) in
          subst (λ o. IsLatestOpening i (entries ++ Step e ∷ []) o) told
          (still_latest entries e (latest_opening i back) is so_far)

  more_entries : (entries back more : List Entry) → length back ≡ length entries
      → IsLatestOpening i entries (latest_opening i back)
      → IsLatestOpening i (entries ++ more) (latest_opening i (recent back more))
  more_entries entries back [] same so_far =
      subst (λ es. IsLatestOpening i es (latest_opening i back)) (sym (append-nil entries)) so_far
  more_entries entries back (entry ∷ more) same so_far =
      let longer : length (entry ∷ back) ≡ length (entries ++ entry ∷ []) =
      omega (arith, same, length-append entries (entry ∷ [])) in
      subst (λ es. IsLatestOpening i es (latest_opening i (recent (entry ∷ back) more)))
      (append_assoc entries (entry ∷ []) more)
      (more_entries (entries ++ entry ∷ []) (entry ∷ back) more longer (one_more entries back entry same so_far))

  pub is_latest : (entries : List Entry) → IsLatestOpening i entries (latest_opening i (recent [] entries))
  is_latest entries = more_entries [] [] entries refl (none [] refl refl)
