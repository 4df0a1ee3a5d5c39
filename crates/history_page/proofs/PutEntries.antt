-- The lines of entries that are played and written one after another.
use Rattle.std.proofs.Common.{◌≡◌, ℕ, suc, ◌+◌, ◌<◌, ◌≤◌, List, [], ◌∷◌, ◌++◌, length, take, drop, Option, Some, None, IsSome}
use Rattle.std.proofs.Common.{slice_index_or, refl, ap, sym, subst, ◌∙◌, add-one, drop-cons, append_assoc, append-nil, arith}
use Rattle.std.specs.Io.KnownBytes.{Appends}
use Rattle.std.specs.Option.{option_and_then, option_map_or}
use Rattle.std.proofs.KnownBytes.{Appends-trans}
use Rattle.std.proofs.lemmas.List.{drop_all}
use Rattle.action_tables.specs.Written.{AppendsPrefix}
use Rattle.action_tables.proofs.Prefixes.{AppendsPrefix-first, AppendsPrefix-then}
use Rattle.app_interface.specs.Application.{App}
use Rattle.reset_model.specs.Configuration.{Configuration}
use Rattle.history.specs.declared.entry.Entry.{Entry}
use Rattle.history.specs.declared.entry.Report.{Report}
use Rattle.history.specs.Entries.{entered, replayed}
use Rattle.history.specs.Reports.{report_of, reports_from}
use Rattle.history_page.specs.Cursor.{told_count}
use Rattle.history_page.specs.Entries.{entries_text, entry_data}
use Rattle.history_page.specs.Lines.{line_text}
use Rattle.history_page.proofs.ReportCursor.{entry_here, rest_later, told_first}

nothing_yet : (a : Option (List ℕ)) → Appends a a []
nothing_yet None = tt
nothing_yet (Some xs) = sym (append-nil xs)

-- the entry at an index, and those after it
entry_and_rest : (es : List Entry) (i : ℕ) (x : Entry) → i < length es → x ≡ slice_index_or es i x
    → drop i es ≡ x ∷ drop (i + 1) es
entry_and_rest es i x short is =
    drop-cons es i x short ∙ ap (λ e. e ∷ drop (suc i) es) (sym is) ∙ ap (λ k. x ∷ drop k es) (sym (add-one i))

module _ {L : Type 0} (app : App L) (text : L → List ℕ) (from_text : List ℕ → Option L) where
  -- from the start on the entries before an index were written, which left this configuration and these reports
  pub record ArePut (start : Configuration L) (es : List Entry) (old new : Option (List ℕ)) (i : ℕ)
      (c : Configuration L) (rest : List Report) : Type 0 where
    pub done : List ℕ
    pub before : List Entry
    pub written : Appends old new done
    pub whole : entries_text app text from_text start [] es
        ≡ done ++ entries_text app text from_text c before (drop i es)
    pub reports : rest ≡ reports_from app from_text c before (drop i es)
    pub count : length before ≡ i
    pub run : IsSome (replayed app from_text c (drop i es))

  pub none_put : (start : Configuration L) (es : List Entry) (old : Option (List ℕ)) (rest : List Report)
      → IsSome (replayed app from_text start es) → rest ≡ reports_from app from_text start [] es
      → ArePut start es old old 0 start rest
  none_put start es old rest run reports = record {
    done = [];
    before = [];
    written = nothing_yet old;
    whole = refl;
    reports = reports;
    count = refl;
    run = run;
  }

  replayed_next : (c : Configuration L) (es : List Entry) (i : ℕ) (x : Entry) → i < length es
      → x ≡ slice_index_or es i x → replayed app from_text c (drop i es)
      ≡ option_and_then (λ after. replayed app from_text after (drop (i + 1) es)) (entered app from_text c x)
  unfolding replayed
  replayed_next c es i x short is = ap (replayed app from_text c) (entry_and_rest es i x short is)

  -- the next entry is allowed
  pub next_allowed : (start c : Configuration L) (es : List Entry) (old new : Option (List ℕ)) (i : ℕ)
      (rest : List Report) (x : Entry) → ArePut start es old new i c rest → i < length es → x ≡ slice_index_or es i x
      → IsSome (entered app from_text c x)
  next_allowed start c es old new i rest x put short is =
      elim (entered app from_text c x) as (λ o. IsSome (option_and_then (λ after. replayed app from_text after (drop
      (i + 1) es)) o) → IsSome o) [ None ↦ λ none. none | Some a ↦ λ more. refl ]
      (subst (λ o. IsSome o) (replayed_next c es i x short is) put.run)

  rest_allowed : (c d : Configuration L) (es : List Entry) (i : ℕ) (x : Entry) → i < length es
      → x ≡ slice_index_or es i x → entered app from_text c x ≡ Some d → IsSome (replayed app from_text c (drop i es))
      → IsSome (replayed app from_text d (drop (i + 1) es))
  rest_allowed c d es i x short is here some =
      subst (λ o. IsSome o)
      (replayed_next c es i x short is
      ∙ ap (option_and_then (λ after. replayed app from_text after (drop (i + 1) es))) here) some

  text_next : (c d : Configuration L) (before es : List Entry) (i : ℕ) (x : Entry) → i < length es
      → x ≡ slice_index_or es i x → entered app from_text c x ≡ Some d
      → entries_text app text from_text c before (drop i es)
      ≡ line_text (entry_data app text c d x (report_of app c before x))
      ++ entries_text app text from_text d (x ∷ before) (drop (i + 1) es)
  unfolding entries_text
  text_next c d before es i x short is here =
      ap (entries_text app text from_text c before) (entry_and_rest es i x short is)
      ∙ ap (λ o. option_map_or (λ after. line_text (entry_data app text c after x (report_of app c before x))
      ++ entries_text app text from_text after (x ∷ before) (drop (i + 1) es)) o []) here

  reports_next : (c d : Configuration L) (before es : List Entry) (i : ℕ) (x : Entry) → i < length es
      → x ≡ slice_index_or es i x → entered app from_text c x ≡ Some d
      → reports_from app from_text c before (drop i es)
      ≡ report_of app c before x ++ reports_from app from_text d (x ∷ before) (drop (i + 1) es)
  unfolding reports_from
  reports_next c d before es i x short is here =
      ap (reports_from app from_text c before) (entry_and_rest es i x short is)
      ∙ ap (λ o. report_of app c before x
      ++ option_map_or (λ after. reports_from app from_text after (x ∷ before) (drop (i + 1) es)) o []) here

  -- what stands first of the reports is that of the next entry
  cut_reports : (c d : Configuration L) (before es : List Entry) (i place : ℕ) (x : Entry) (rest : List Report)
      → i < length es → x ≡ slice_index_or es i x → entered app from_text c x ≡ Some d → length before ≡ i
      → place ≡ i + 1 → rest ≡ reports_from app from_text c before (drop i es)
      → (take (told_count place rest) rest ≡ report_of app c before x)
      × (drop (told_count place rest) rest ≡ reports_from app from_text d (x ∷ before) (drop (i + 1) es))
  cut_reports c d before es i place x rest short is here count at reports =
      let here_and_more = reports ∙ reports_next c d before es i x short is here in
      let same : length before + 1 ≡ place = omega (arith, count, at) in
      let more = reports_from app from_text d (x ∷ before) (drop (i + 1) es) in
      let P : List Report → Type 0 =
      λ rs. (take (told_count place rs) rs ≡ report_of app c before x) × (drop (told_count place rs) rs ≡ more) in
      subst P (sym here_and_more)
      (subst (λ n. (take (told_count n (report_of app c before x ++ more)) (report_of app c before x ++ more)
      ≡ report_of app c before x)
      × (drop (told_count n (report_of app c before x ++ more)) (report_of app c before x ++ more) ≡ more)) same
      (told_first (length before + 1) (report_of app c before x) more (entry_here app from_text c before x)
      (rest_later app from_text (drop (i + 1) es) d (x ∷ before) (length before + 1) (omega arith))))

  -- the line of the next entry with the reports that stand first
  next_text : (start c d : Configuration L) (es : List Entry) (old new : Option (List ℕ)) (i place : ℕ)
      (rest : List Report) (x : Entry) (put : ArePut start es old new i c rest) → i < length es
      → x ≡ slice_index_or es i x → entered app from_text c x ≡ Some d → place ≡ i + 1
      → entries_text app text from_text c put.before (drop i es)
      ≡ line_text (entry_data app text c d x (take (told_count place rest) rest))
      ++ entries_text app text from_text d (x ∷ put.before) (drop (i + 1) es)
  next_text start c d es old new i place rest x put short is here at =
      text_next c d put.before es i x short is here
      ∙ ap (λ rs. line_text (entry_data app text c d x rs)
      ++ entries_text app text from_text d (x ∷ put.before) (drop (i + 1) es))
      (sym (cut_reports c d put.before es i place x rest short is here put.count at put.reports).0)

  -- one line more
  pub more_put : (start c d : Configuration L) (es : List Entry) (old new newer : Option (List ℕ)) (i place : ℕ)
      (rest : List Report) (x : Entry) → ArePut start es old new i c rest → i < length es
      → x ≡ slice_index_or es i x → entered app from_text c x ≡ Some d → place ≡ i + 1
      → Appends new newer (line_text (entry_data app text c d x (take (told_count place rest) rest)))
      → ArePut start es old newer (i + 1) d (drop (told_count place rest) rest)
  more_put start c d es old new newer i place rest x put short is here at line = record {
    done = put.done ++ line_text (entry_data app text c d x (take (told_count place rest) rest));
    before = x ∷ put.before;
    written = Appends-trans old new newer put.done _ put.written line;
    whole = put.whole ∙ ap (λ t. put.done ++ t) (next_text start c d es old new i place rest x put short is here at)
        ∙ sym (append_assoc put.done _ _);
    reports = (cut_reports c d put.before es i place x rest short is here put.count at put.reports).1;
    count = omega (arith, put.count);
    run = rest_allowed c d es i x short is here put.run;
  }

  -- the next line failed
  pub line_failed : (start c d : Configuration L) (es : List Entry) (old new newer : Option (List ℕ)) (i place : ℕ)
      (rest : List Report) (x : Entry) → ArePut start es old new i c rest → i < length es
      → x ≡ slice_index_or es i x → entered app from_text c x ≡ Some d → place ≡ i + 1
      → AppendsPrefix new newer (line_text (entry_data app text c d x (take (told_count place rest) rest)))
      → AppendsPrefix old newer (entries_text app text from_text start [] es)
  line_failed start c d es old new newer i place rest x put short is here at line =
      subst (λ t. AppendsPrefix old newer t)
      (sym (put.whole ∙ ap (λ t. put.done ++ t) (next_text start c d es old new i place rest x put short is here at)))
      (AppendsPrefix-then old new newer put.done _ put.written (AppendsPrefix-first new newer _ _ line))

  -- what was written is a prefix of all
  pub stopped : (start c : Configuration L) (es : List Entry) (old new : Option (List ℕ)) (i : ℕ)
      (rest : List Report) → ArePut start es old new i c rest
      → AppendsPrefix old new (entries_text app text from_text start [] es)
  stopped start c es old new i rest put =
      record { prefix = put.done; rest = _; cut = put.whole; appended = put.written }

  -- all were written
  pub all_put : (start c : Configuration L) (es : List Entry) (old new : Option (List ℕ)) (i : ℕ)
      (rest : List Report) → ArePut start es old new i c rest → length es ≤ i
      → Appends old new (entries_text app text from_text start [] es)
  unfolding entries_text
  all_put start c es old new i rest put over =
      subst (λ t. Appends old new t)
      (sym (put.whole ∙ ap (λ k. put.done ++ entries_text app text from_text c put.before k) (drop_all i es over)
      ∙ append-nil put.done)) put.written
