-- Each row of a walk in which clap finds no fault has values, and its argument takes them.
use Rattle.std.proofs.Common.{◌≡◌, ◌∙◌, ◌<◌, ◌&&◌, ◌⊎◌, ℕ, Bool, cond, true, false, zero, suc, refl, sym, subst, ap}
use Rattle.std.proofs.Common.{arith, inl, inr, not, List, [], ◌∷◌, ◌++◌, length, drop, Option, Some, None, true≢false}
use Rattle.std.proofs.lemmas.Bool.{ltb-true}
use Rattle.std.proofs.lemmas.List.{length-append}
use Rattle.std.proofs.lemmas.Slice.Eq.{bytes_eq-Decides}
use Rattle.std.specs.List.{fold}
use Rattle.std.specs.Option.{option_map_or}
use Rattle.std.specs.Str.{bytes_eq, chars}
use Rattle.std.specs.Prelude.{⊤, IfSome, encode_utf8, find, is_some, nat_lt, slice_get}
use Rattle.clap.specs.Facts.{explicit_source, unwrap_or_range}
use Rattle.clap.specs.Faults.{action_fault, bundle_fault, bundle_step_fault, flag_word_fault, flags_fault, level_fault}
use Rattle.clap.specs.Faults.{long_fault, option_fault, other_fault, positional_fault, react_fault, settle_fault}
use Rattle.clap.specs.Faults.{repeat_fault, short_fault, step_fault, turn_fault, use_fault, values_fault, walk_fault}
use Rattle.clap.specs.Faults.{check_fault, defaults_fault, stray_fault, word_fault}
use Rattle.clap.specs.Kinds.{Kinds, or_else, range_kinds}
use Rattle.clap.specs.Lexer.{long_of, short_of}
use Rattle.clap.specs.Simple.{Shape}
use Rattle.clap.specs.Takes.{is_given}
use Rattle.clap.specs.Walk.{Held, Names, Outcome, Row, Rule, Step, Text, Waiting, Walk, action_of, after_flag}
use Rattle.clap.specs.Walk.{after_step, arg_by_id, arg_by_index, arg_by_long, arg_by_short, at_row, attached_value}
use Rattle.clap.specs.Walk.{bundle, bundle_met, bundle_step, flag_met, has_long, has_row, has_short, is_pending}
use Rattle.clap.specs.Walk.{long_met, long_or_other, more_values, most_values, nothing_held, option_met, option_word}
use Rattle.clap.specs.Walk.{plain_word, positional_held, pushed, reacted, reading_by, rows_after, settled}
use Rattle.clap.specs.Walk.{settled_rows, short_met, short_or_plain, stronger, subcommand_met, subcommand_or_other}
use Rattle.clap.specs.Walk.{takes_several, takes_values, to_positional, used, used_as, used_by_id, walk, walk_from}
use Rattle.clap.specs.Walk.{walked, walked_from, with_default, with_values, without, word_met, done, waits, plain}
use Rattle.clap.specs.Walk.{refused, idle, option, positional, next, trailing, subcommand, value}
use Rattle.clap.specs.Walk.{default_rows, values_or_missing}
use Rattle.clap.specs.declared.builder.action.ArgAction.{ArgAction}
use Rattle.clap.specs.declared.builder.action.ArgAction.TheVariants.{Set, SetTrue, Help}
use Rattle.clap.specs.declared.error.kind.ErrorKind.TheVariants.{TooManyValues}
use Rattle.clap.specs.declared.parser.matches.ValueSource.{ValueSource}

-- ---- no kind of error

pub or_else-nil : (a b : Kinds) → or_else a b ≡ [] → (a ≡ []) × (b ≡ [])
or_else-nil [] b e = (refl, e)
or_else-nil (k ∷ ks) b e = absurd (cc)

-- ---- rows

-- the row has values, the argument takes them, and they are read by its parser
abbrev pub IsTaken : Option Rule → Row → Type 0
IsTaken None r = ⊤
IsTaken (Some a) r = (0 < length r.values) × (values_fault a r.values ≡ []) × (r.reading ≡ reading_by a)

-- so it is for each row and the argument of its id
abbrev pub AreTaken : List Rule → List Row → Type 0
AreTaken c [] = ⊤
AreTaken c (r ∷ rs) = IsTaken (arg_by_id c r.id) r × AreTaken c rs

-- an argument that takes a value with each use, has no default, and is the one of its id
abbrev pub TakesValue : List Rule → Rule → Type 0
TakesValue c a = (a.defaults ≡ []) × (action_of a ≡ Set)
    × (nat_lt 0 (unwrap_or_range a.range).start_inclusive ≡ true) × (arg_by_id c a.id ≡ Some a)

-- one that asks for help
abbrev pub AsksHelp : Rule → Type 0
AsksHelp a = (a.defaults ≡ []) × (action_of a ≡ Help)

-- a flag that is the one of its id, with a value for where it is given and a default that it takes
abbrev pub IsFlag : List Rule → Rule → Type 0
IsFlag c a = (values_fault a a.defaults ≡ []) × (action_of a ≡ SetTrue) × (nat_lt 0 (length a.missing) ≡ true)
    × (arg_by_id c a.id ≡ Some a)

abbrev pub Fits : List Rule → Rule → Type 0
Fits c a = TakesValue c a ⊎ (AsksHelp a ⊎ IsFlag c a)

abbrev pub AllFit : List Rule → List Rule → Type 0
AllFit c [] = ⊤
AllFit c (a ∷ rest) = Fits c a × AllFit c rest

found_fits : (c : List Rule) (test : Rule → Bool) (rest : List Rule) → AllFit c rest → IfSome (find test rest) (Fits c)
found_fits c test [] fit = tt
found_fits c test (a ∷ rest) fit = go (test a) (found_fits c test rest fit.1)
  where
    go : (b : Bool) → IfSome (find test rest) (Fits c) → IfSome (cond b (Some a) (find test rest)) (Fits c)
    go true below = fit.0
    go false below = below

AreTaken-append : (c : List Rule) (xs ys : List Row) → AreTaken c xs → AreTaken c ys → AreTaken c (xs ++ ys)
AreTaken-append c [] ys f g = g
AreTaken-append c (x ∷ xs) ys f g = (f.0, AreTaken-append c xs ys f.1 g)

AreTaken-at_row : (c : List Rule) (id : Text) (change : Row → List Row) (missing rows : List Row)
    → ((r : Row) → bytes_eq r.id id ≡ true → IsTaken (arg_by_id c r.id) r → AreTaken c (change r))
    → AreTaken c missing → AreTaken c rows → AreTaken c (at_row id change missing rows)
AreTaken-at_row c id change missing [] changed added f = added
AreTaken-at_row c id change missing (r ∷ rs) changed added f =
    go (bytes_eq r.id id) refl (AreTaken-at_row c id change missing rs changed added f.1)
  where
    go : (b : Bool) → bytes_eq r.id id ≡ b → AreTaken c (at_row id change missing rs)
        → AreTaken c (cond b (change r ++ rs) (r ∷ at_row id change missing rs))
    go true same below = AreTaken-append c (change r) rs (changed r same f.0) f.1
    go false other below = (f.0, below)

values_fault-append : (a : Rule) (xs ys : List Text) → values_fault a xs ≡ [] → values_fault a ys ≡ []
    → values_fault a (xs ++ ys) ≡ []
values_fault-append a [] ys e f = f
values_fault-append a (x ∷ xs) ys e f =
    let parts = or_else-nil _ (values_fault a xs) e in
    rw parts.0 (values_fault-append a xs ys parts.1 f)

AreTaken-with_values : (c : List Rule) (a : Rule) (s : ValueSource) (values : List Text) (rows : List Row)
    → arg_by_id c a.id ≡ Some a → 0 < length values → values_fault a values ≡ [] → AreTaken c rows
    → AreTaken c (with_values a.id (reading_by a) s values rows)
AreTaken-with_values c a s values rows own some passes f =
    AreTaken-at_row c a.id (more_values s values) (new ∷ []) rows changed (added, tt) f
  where
    new : Row
    new = record { id = a.id; values = values; count = None; source = Some s; reading = reading_by a }

    changed : (r : Row) → bytes_eq r.id a.id ≡ true → IsTaken (arg_by_id c r.id) r → AreTaken c (more_values s values r)
    changed r same taken =
        let is : arg_by_id c r.id ≡ Some a = ap (arg_by_id c) ((bytes_eq-Decides r.id a.id).0 same) ∙ own in
        let old : IsTaken (Some a) r = subst (λ (o : Option Rule). IsTaken o r) is taken in (
          subst
              (λ (o : Option Rule). IsTaken o
              (record r { values = r.values ++ values; source = Some (stronger r.source s) })) (sym is) (
                omega (arith, length-append r.values values),
                values_fault-append a r.values values old.1 passes,
                old.2,
              ),
          tt,
        )

    added : IsTaken (arg_by_id c a.id) new
    added = subst (λ (o : Option Rule). IsTaken o new) (sym own) (some, passes, refl)

AreTaken-without : (c : List Rule) (id : Text) (rows : List Row) → AreTaken c rows → AreTaken c (without id rows)
AreTaken-without c id rows f = AreTaken-at_row c id (λ _. []) [] rows (λ r same h. tt) tt f

-- ---- a use

-- a use without a value is a fault where the least is over 0
no_values : (least most : ℕ) → nat_lt 0 least ≡ true → range_kinds least most 0 ≡ [] → ⊥
no_values least most some e =
    let bad = rw some at e in
    cc

-- a flag has a value for where it is given
some_given : (a : Rule) (values : List Text) → nat_lt 0 (length a.missing) ≡ true
    → 0 < length (values_or_missing a values)
some_given a [] some = ltb-true 0 (length a.missing) some
some_given a (v ∷ vs) some = omega arith

AreTaken-used : (c : List Rule) (again : Bool) (a : Rule) (values : List Text) (rows : List Row) → Fits c a
    → use_fault again a values rows ≡ [] → AreTaken c rows → AreTaken c (used a values rows)
AreTaken-used c again a values rows (inr (inl help)) e f =
    let parts =
    or_else-nil (range_kinds (unwrap_or_range a.range).start_inclusive (most_values a) (length values)) _ e in
    let bad = rw help.1 at parts.1 in
    absurd (cc)
AreTaken-used c again a [] rows (inl fit) e f =
    absurd (no_values _ (most_values a) fit.2 (or_else-nil (range_kinds _ (most_values a) 0) _ e).0)
AreTaken-used c again a (v ∷ vs) rows (inl fit) e f =
    let parts =
    or_else-nil (range_kinds (unwrap_or_range a.range).start_inclusive (most_values a) (length (v ∷ vs))) _ e in
    let as_set : action_fault Set again a (v ∷ vs) rows ≡ [] =
    subst (λ (x : ArgAction). action_fault x again a (v ∷ vs) rows ≡ []) fit.1 parts.1 in
    let passes = (or_else-nil (repeat_fault again a.id rows) _ as_set).1 in
    subst (λ (x : ArgAction). AreTaken c (used_as x a.id (reading_by a) (v ∷ vs) rows)) (sym fit.1)
    (AreTaken-with_values c a _ (v ∷ vs) (without a.id rows) fit.3 (omega arith) passes
    (AreTaken-without c a.id rows f))
AreTaken-used c again a values rows (inr (inr flag)) e f =
    let given : List Text = values_or_missing a values in
    let parts =
    or_else-nil (range_kinds (unwrap_or_range a.range).start_inclusive (most_values a) (length values)) _ e in
    let as_set : action_fault SetTrue again a given rows ≡ [] =
    subst (λ (x : ArgAction). action_fault x again a given rows ≡ []) flag.1 parts.1 in
    let passes = (or_else-nil (repeat_fault again a.id rows) _ as_set).1 in
    subst (λ (x : ArgAction). AreTaken c (used_as x a.id (reading_by a) given rows)) (sym flag.1)
    (AreTaken-with_values c a _ given (without a.id rows) flag.3 (some_given a values flag.2) passes
    (AreTaken-without c a.id rows f))

-- ---- what is held

module _ (c : List Rule) (again : Bool) (fit : AllFit c c) where
  abbrev Taken : Held → Type 0
  Taken h = AreTaken c h.rows

  Taken-settled : (h : Held) → settle_fault c again h ≡ [] → Taken h → Taken (settled c h)
  Taken-settled h e f = go h.pending e
    where
      by_id : (p : Text × List Text) (o : Option Rule) → IfSome o (Fits c)
          → option_map_or (λ a. use_fault again a p.1 h.rows) o [] ≡ []
          → AreTaken c (used_by_id o p.1 h.rows)
      by_id p None fits e = f
      by_id p (Some a) fits e = AreTaken-used c again a p.1 h.rows fits e f

      go : (p : Option (Text × List Text))
          → option_map_or (λ p. option_map_or (λ a. use_fault again a p.1 h.rows) (arg_by_id c p.0) []) p [] ≡ []
          → AreTaken c (settled_rows c p h.rows)
      go None e = f
      go (Some p) e = by_id p (arg_by_id c p.0) (found_fits c (λ a. bytes_eq a.id p.0) c fit) e

  Taken-reacted : (a : Rule) (values : List Text) (h : Held) → Fits c a → react_fault c again a values h ≡ [] → Taken h
      → Taken (reacted c a values h)
  Taken-reacted a values h fits e f =
      let parts = or_else-nil (settle_fault c again h) _ e in
      AreTaken-used c again a values (settled c h).rows fits parts.1 (Taken-settled h parts.0 f)

  -- ---- flags

  Taken-option_met : (a : Rule) (o : Option Text) (h : Held) → Fits c a → option_fault c again a o h ≡ [] → Taken h
      → Taken (option_met c a o h).0
  Taken-option_met a (Some v) h fits e f = Taken-reacted a (v ∷ []) h fits e f
  Taken-option_met a None h fits e f = Taken-settled h e f

  Taken-flag_met : (a : Rule) (o : Option Text) (h : Held) → Fits c a
      → cond (is_some o) (TooManyValues ∷ [])
      (react_fault c again a [] h) ≡ []
      → Taken h → Taken (flag_met c a o h).0
  Taken-flag_met a (Some v) h fits e f = f
  Taken-flag_met a None h fits e f = Taken-reacted a [] h fits e f

  Taken-long_met : (found : Option Rule) (o : Option Text) (h : Held) → IfSome found (Fits c)
      → long_fault c again found o h ≡ [] → Taken h → Taken (long_met c found o h).0
  Taken-long_met None o h fits e f = f
  Taken-long_met (Some a) o h fits e f = go (takes_values a) e
    where
      go : (b : Bool)
          → cond b (option_fault c again a o h)
          (cond (is_some o) (TooManyValues ∷ [])
          (react_fault c again a [] h)) ≡ []
          → Taken (cond b (option_met c a o h) (flag_met c a o h)).0
      go true e = Taken-option_met a o h fits e f
      go false e = Taken-flag_met a o h fits e f

  Taken-short_met : (found : Option Rule) (rest : Text) (h : Held) (then : Held → Held × Outcome) (fault : Held → Kinds)
      → IfSome found (Fits c) → ((k : Held) → fault k ≡ [] → Taken k → Taken (then k).0)
      → short_fault c again found rest h fault ≡ [] → Taken h → Taken (short_met c found rest h then).0
  Taken-short_met None rest h then fault fits below e f = f
  Taken-short_met (Some a) rest h then fault fits below e f = go (takes_values a) e
    where
      go : (b : Bool)
          → cond b (option_fault c again a (attached_value rest) h)
          (or_else (react_fault c again a [] h) (fault (reacted c a [] h))) ≡ []
          → Taken (cond b (option_met c a (attached_value rest) h) (then (reacted c a [] h))).0
      go true e = Taken-option_met a (attached_value rest) h fits e f
      go false e =
          let parts = or_else-nil (react_fault c again a [] h) _ e in
          below _ parts.1 (Taken-reacted a [] h fits parts.0 f)

  Taken-bundle_step : (o : Option ℕ) (flags : Text) (skip : ℕ) (so_far : Outcome) (h : Held)
      (then : Text → ℕ → Outcome → Held → Held × Outcome) (fault : Text → ℕ → Held → Kinds)
      → ((t : Text) (n : ℕ) (s : Outcome) (k : Held) → fault t n k ≡ [] → Taken k → Taken (then t n s k).0)
      → bundle_step_fault c again o flags skip h fault ≡ [] → Taken h
      → Taken (bundle_step c o flags skip so_far h then).0
  Taken-bundle_step None flags skip so_far h then fault below e f = f
  Taken-bundle_step (Some x) flags zero so_far h then fault below e f =
      Taken-short_met (arg_by_short c x) (drop (length (encode_utf8 x)) flags) h _ _
      (found_fits c (λ a. not (is_some a.index) && has_short a x) c fit)
      (below (drop (length (encode_utf8 x)) flags) 0 done) e f
  Taken-bundle_step (Some x) flags (suc skip) so_far h then fault below e f =
      below (drop (length (encode_utf8 x)) flags) skip so_far h e f

  Taken-bundle_met : (k : ℕ) (flags : Text) (skip : ℕ) (so_far : Outcome) (h : Held)
      → flags_fault c again k flags skip h ≡ [] → Taken h → Taken (bundle_met c k flags skip so_far h).0
  unfolding bundle_met flags_fault
  Taken-bundle_met zero flags skip so_far h e f = f
  Taken-bundle_met (suc k) flags skip so_far h e f =
      Taken-bundle_step (slice_get (chars flags) 0) flags skip so_far h (bundle_met c k) (flags_fault c again k)
      (λ t n s j. Taken-bundle_met k t n s j) e f

  -- ---- words

  Taken-option_word : (found : Option Rule) (id word : Text) (h : Held) → Taken h
      → Taken (option_word found id word h).0
  Taken-option_word None id word h f = f
  Taken-option_word (Some a) id word h f = f

  Taken-plain_word : (waiting : Waiting) (word : Text) (h : Held) → Taken h → Taken (plain_word c waiting word h).0
  Taken-plain_word idle word h f = f
  Taken-plain_word (option id) word h f = Taken-option_word (arg_by_id c id) id word h f
  Taken-plain_word positional word h f = f

  Taken-after_flag : (waiting : Waiting) (word : Text) (h : Held) (o : Outcome) → Taken h
      → Taken (after_flag c waiting word h o).0
  Taken-after_flag waiting word h done f = f
  Taken-after_flag waiting word h (waits id) f = f
  Taken-after_flag waiting word h plain f = Taken-plain_word waiting word h f
  Taken-after_flag waiting word h refused f = Taken-plain_word waiting word h f

  Taken-short_or_plain : (waiting : Waiting) (word : Text) (o : Option Text) (h : Held)
      → option_map_or (λ flags. bundle_fault c again flags h) o [] ≡ [] → Taken h
      → Taken (short_or_plain c waiting word o h).0
  Taken-short_or_plain waiting word None h e f = Taken-plain_word waiting word h f
  Taken-short_or_plain waiting word (Some flags) h e f =
      Taken-after_flag waiting word _ (bundle c flags h).1
      (Taken-bundle_met (length flags) flags h.skip plain (record h { skip = 0 }) e f)

  Taken-long_or_other : (waiting : Waiting) (word : Text) (o : Option (Text × Option Text)) (h : Held)
      → flag_word_fault c again o word h ≡ [] → Taken h → Taken (long_or_other c waiting word o h).0
  Taken-long_or_other waiting word None h e f = Taken-short_or_plain waiting word (short_of word) h e f
  Taken-long_or_other waiting word (Some p) h e f =
      Taken-after_flag waiting word _ (long_met c (arg_by_long c p.0) p.1 h).1
      (Taken-long_met (arg_by_long c p.0) p.1 h
      (found_fits c (λ a. not (is_some a.index) && has_long a p.0) c fit) e f)

  Taken-positional_held : (a : Rule) (word : Text) (h : Held) → positional_fault c again a h ≡ [] → Taken h
      → Taken (positional_held c a word h)
  Taken-positional_held a word h e f = go (is_pending a h.pending && takes_several a) e
    where
      go : (b : Bool) → cond b [] (settle_fault c again h) ≡ [] → Taken (pushed a.id word (cond b h (settled c h)))
      go true e = f
      go false e = Taken-settled h e f

-- ---- the walk

module _ (s : Shape) (fit : AllFit s.rules s.rules) where
  abbrev HoldsTaken : Held → Type 0
  HoldsTaken h = AreTaken s.rules h.rows

  Taken-subcommand_or_other : (o : Option Text) (waiting : Waiting) (position : ℕ) (word : Text) (h : Held)
      → other_fault s o word h ≡ [] → HoldsTaken h
      → HoldsTaken (subcommand_or_other s.rules o waiting position word h).0
  Taken-subcommand_or_other (Some name) waiting position word h e f = f
  Taken-subcommand_or_other None waiting position word h e f = go (bytes_eq word (45 ∷ 45 ∷ [])) e
    where
      go : (b : Bool) → cond b [] (flag_word_fault s.rules s.args_override_self (long_of word) word h) ≡ []
          → HoldsTaken (cond b (h, trailing position) (long_or_other s.rules waiting word (long_of word) h)).0
      go true e = f
      go false e = Taken-long_or_other s.rules s.args_override_self fit waiting word (long_of word) h e f

  Taken-word_met : (names : Names) (is_trailing : Bool) (waiting : Waiting) (position : ℕ) (word : Text) (h : Held)
      → word_fault s names is_trailing waiting word h ≡ [] → HoldsTaken h
      → HoldsTaken (word_met s.rules names is_trailing waiting position word h).0
  Taken-word_met names true waiting position word h e f = f
  Taken-word_met names false waiting position word h e f =
      Taken-subcommand_or_other (subcommand_met names waiting word) waiting position word h e f

  Taken-to_positional : (found : Option Rule) (word : Text) (w : Walk) (h : Held)
      → option_map_or (λ a. positional_fault s.rules s.args_override_self a h) found
      (stray_fault s) ≡ []
      → HoldsTaken h → HoldsTaken (to_positional s.rules found word w h).held
  Taken-to_positional None word w h e f = f
  Taken-to_positional (Some a) word w h e f = Taken-positional_held s.rules s.args_override_self fit a word h e f

  Taken-after_step : (word : Text) (w : Walk) (h : Held) (step : Step) → step_fault s w.position h step ≡ []
      → HoldsTaken h → HoldsTaken (after_step s.rules word w h step).held
  Taken-after_step word w h (next waiting) e f = f
  Taken-after_step word w h (trailing position) e f = f
  Taken-after_step word w h (subcommand name) e f = f
  Taken-after_step word w h value e f = Taken-to_positional (arg_by_index s.rules w.position) word w h e f

  Taken-walked_from : (names : Names) (stop : Option (Text × List Text)) (w : Walk) (word : Text)
      → cond (is_some stop) [] (or_else (word_fault s names w.is_trailing w.waiting word w.held)
      (step_fault s w.position (word_met s.rules names w.is_trailing w.waiting w.position word w.held).0
      (word_met s.rules names w.is_trailing w.waiting w.position word w.held).1)) ≡ []
      → HoldsTaken w.held → HoldsTaken (walked_from s.rules names stop w word).held
  Taken-walked_from names (Some p) w word e f = f
  Taken-walked_from names None w word e f =
      let parts = or_else-nil (word_fault s names w.is_trailing w.waiting word w.held) _ e in
      Taken-after_step word w _ (word_met s.rules names w.is_trailing w.waiting w.position word w.held).1 parts.1
      (Taken-word_met names w.is_trailing w.waiting w.position word w.held parts.0 f)

  Taken-walk : (names : Names) (w : Walk) (words : List Text) → walk_fault s names w words ≡ [] → HoldsTaken w.held
      → HoldsTaken (fold (walked s.rules names) w words).held
  unfolding walked walk_fault
  Taken-walk names w [] e f = f
  Taken-walk names w (word ∷ words) e f =
      let parts = or_else-nil (turn_fault s names w word) (walk_fault s names (walked s.rules names w word) words) e in
      Taken-walk names (walked s.rules names w word) words parts.1
      (Taken-walked_from names w.stopped w word parts.0 f)

-- ---- after the walk

-- the argument of no default, and the flag of a default that it takes
AreTaken-default_rows : (c : List Rule) (a : Rule) (rows : List Row) → Fits c a → AreTaken c rows
    → AreTaken c (default_rows a.id (reading_by a) a.defaults rows)
AreTaken-default_rows c a rows (inl fit) f =
    subst (λ (ds : List Text). AreTaken c (default_rows a.id (reading_by a) ds rows)) (sym fit.0) f
AreTaken-default_rows c a rows (inr (inl help)) f =
    subst (λ (ds : List Text). AreTaken c (default_rows a.id (reading_by a) ds rows)) (sym help.0) f
AreTaken-default_rows c a rows (inr (inr flag)) f = go a.defaults flag.0
  where
    go : (ds : List Text) → values_fault a ds ≡ [] → AreTaken c (default_rows a.id (reading_by a) ds rows)
    go [] passes = f
    go (d ∷ ds) passes = AreTaken-with_values c a _ (d ∷ ds) rows flag.3 (omega arith) passes f

AreTaken-with_default : (c : List Rule) (a : Rule) (rows : List Row) → Fits c a → AreTaken c rows
    → AreTaken c (with_default rows a)
AreTaken-with_default c a rows fits f = go (has_row a.id rows) (AreTaken-default_rows c a rows fits f)
  where
    go : (b : Bool) → AreTaken c (default_rows a.id (reading_by a) a.defaults rows)
        → AreTaken c (cond b rows (default_rows a.id (reading_by a) a.defaults rows))
    go true defaulted = f
    go false defaulted = defaulted

AreTaken-defaults : (c rest : List Rule) (rows : List Row) → AllFit c rest → AreTaken c rows
    → AreTaken c (fold with_default rows rest)
AreTaken-defaults c [] rows fit f = f
AreTaken-defaults c (a ∷ rest) rows fit f =
    AreTaken-defaults c rest (with_default rows a) fit.1 (AreTaken-with_default c a rows fit.0 f)

-- clap finds no fault in the words behind the subcommand
abbrev pub TakesWords : Shape → List Text → Type 0
TakesWords s words = level_fault s [] nothing_held words false [] ≡ []

pub rows_taken : (s : Shape) → AllFit s.rules s.rules → (words : List Text) → TakesWords s words
    → AreTaken s.rules (rows_after s.rules [] words)
rows_taken s fit words e =
    let end = (walk s.rules [] nothing_held words).held in
    let walked_well = or_else-nil (walk_fault s [] (walk_from nothing_held) words) _ e in
    let settled_well = or_else-nil (settle_fault s.rules s.args_override_self end) _ walked_well.1 in
    AreTaken-defaults s.rules s.rules (settled s.rules end).rows fit
    (Taken-settled s.rules s.args_override_self fit end settled_well.0
    (Taken-walk s fit [] (walk_from nothing_held) words walked_well.0 tt))

-- the last check finds no fault
pub checked : (s : Shape) (words : List Text) → TakesWords s words
    → check_fault s (rows_after s.rules [] words) false ≡ []
checked s words e =
    let end = (walk s.rules [] nothing_held words).held in
    let walked_well = or_else-nil (walk_fault s [] (walk_from nothing_held) words) _ e in
    let settled_well = or_else-nil (settle_fault s.rules s.args_override_self end) _ walked_well.1 in
    (or_else-nil (defaults_fault (settled s.rules end).rows s.rules) _ settled_well.1).1

-- ---- an argument that was given

-- the row of an argument that was found
pub row_taken : (c : List Rule) (id : Text) (rows : List Row) → AreTaken c rows
    → IfSome (find (λ x. bytes_eq x.id id) rows) (IsTaken (arg_by_id c id))
row_taken c id [] f = tt
row_taken c id (r ∷ rs) f = go (bytes_eq r.id id) refl (row_taken c id rs f.1)
  where
    go : (b : Bool) → bytes_eq r.id id ≡ b → IfSome (find (λ x. bytes_eq x.id id) rs) (IsTaken (arg_by_id c id))
        → IfSome (cond b (Some r) (find (λ x. bytes_eq x.id id) rs)) (IsTaken (arg_by_id c id))
    go true same below = subst (λ (t : Text). IsTaken (arg_by_id c t) r) ((bytes_eq-Decides r.id id).0 same) f.0
    go false other below = below

-- the row of an argument that was given
pub given_row : (c : List Rule) (id : Text) (rows : List Row) → AreTaken c rows → is_given id rows ≡ true
    → (r : Row) × (find (λ x. bytes_eq x.id id) rows ≡ Some r) × IsTaken (arg_by_id c id) r
given_row c id [] f given = absurd (true≢false (sym given))
given_row c id (r ∷ rs) f given = go (bytes_eq r.id id) refl given (given_row c id rs f.1)
  where
    go : (b : Bool) → bytes_eq r.id id ≡ b
        → option_map_or (λ x. explicit_source x.source) (cond b (Some r) (find (λ x. bytes_eq x.id id) rs)) false
        ≡ true
        → (is_given id rs ≡ true
        → (q : Row) × (find (λ x. bytes_eq x.id id) rs ≡ Some q) × IsTaken (arg_by_id c id) q)
        → (q : Row) × (cond b (Some r) (find (λ x. bytes_eq x.id id) rs) ≡ Some q) × IsTaken (arg_by_id c id) q
    go true same e below =
        (r, refl, subst (λ (t : Text). IsTaken (arg_by_id c t) r) ((bytes_eq-Decides r.id id).0 same) f.0)
    go false other e below = below e
