-- A text is read as one thing.
use Rattle.std.proofs.Common.{◌≡◌, ℕ, ◌+◌, ◌<◌, List, [], ◌∷◌, ◌++◌, Result, Ok, Err, length, refl, sym, ap, ap₂}
use Rattle.std.proofs.Common.{subst, ◌∙◌, arith, append_assoc}
use Rattle.std.specs.List.{AllByRecursion}
use Rattle.std.proofs.lemmas.List.Elements.{recursion_from_All}
use Rattle.action_tables.specs.Cuts.{HasNo}
use Rattle.action_tables.specs.LawsOfCuts.{SameCut, same_cut}
use Rattle.history.specs.declared.entry.Entry.{Entry}
use Rattle.history.specs.declared.text.BookFault.{BookFault}
use Rattle.history.specs.declared.text.BookFault.TheVariants.{BadLine}
use Rattle.history.specs.HistoryText.{Begins, BeginsWith, HasLineIn, IsReadAs, ended, entries_text, entry_line}
use Rattle.history.specs.HistoryText.{IsFirstLine, IsOtherVersion, lines_text, version_line}
use Rattle.history.proofs.FirstLines.{SameNames, first_plain, no_other, same_names, version_plain}
use Rattle.history.proofs.HistoryLines.{entry_plain, one_entry}

pub same_ended : (line line' xs ys : List ℕ) → HasNo 10 line → HasNo 10 line' → ended line ++ xs ≡ ended line' ++ ys
    → SameCut line line' xs ys
same_ended line line' xs ys plain plain' is =
    same_cut 10 line line' xs ys plain plain'
    (sym (append_assoc line (10 ∷ []) xs) ∙ is ∙ append_assoc line' (10 ∷ []) ys)

-- ---- first lines

body_of : (text rest first : List ℕ) (es : List Entry) → text ≡ lines_text first es ++ rest
    → text ≡ ended first ++ (entries_text es ++ rest)
body_of text rest first es is = is ∙ append_assoc (ended first) (entries_text es) rest

begins_first : (text rest : List ℕ) (v m : ℕ) (es : List Entry) (b : Begins text v m es rest)
    → BeginsWith text b.first
begins_first text rest v m es b = (entries_text es ++ rest, body_of text rest b.first es b.spelled)

-- a text that begins with two lines begins with one
same_first_line : (text line line' : List ℕ) → HasNo 10 line → HasNo 10 line' → BeginsWith text line
    → BeginsWith text line' → line ≡ line'
same_first_line text line line' plain plain' (rest, is) (rest', is') =
    (same_ended line line' rest rest' plain plain' (sym is ∙ is')).prefix

no_other_version : (text rest : List ℕ) (v m : ℕ) (es : List Entry) (other : ℕ) → Begins text v m es rest
    → IsOtherVersion other → BeginsWith text (version_line other) → ⊥
no_other_version text rest v m es other b is_other begins =
    no_other v m other b.first b.names is_other
    (same_first_line text b.first (version_line other) (first_plain v m b.first b.names)
    (version_plain other is_other.small) (begins_first text rest v m es b) begins)

-- ---- entries

-- no line of an entry of this version begins the text
abbrev pub IsStuck : ℕ → List ℕ → Type 0
IsStuck v rest = (entry : Entry) → HasLineIn v entry → BeginsWith rest (entry_line entry) → ⊥

stuck_at_end : (v : ℕ) → IsStuck v []
stuck_at_end v entry has (rest, is) = no_end (entry_line entry) rest is
  where
    no_end : (line rest : List ℕ) → ◌≡◌ {A = List ℕ} [] (ended line ++ rest) → ⊥
    no_end [] rest is = omega (arith, ap length is)
    no_end (b ∷ line) rest is = omega (arith, ap length is)

record SameBegin (es es' : List Entry) (rest rest' : List ℕ) : Type 0 where
  entries : es ≡ es'
  rests : rest ≡ rest'

first_begins : (entry : Entry) (es : List Entry) (rest text : List ℕ) → text ≡ entries_text (entry ∷ es) ++ rest
    → BeginsWith text (entry_line entry)
first_begins entry es rest text is =
    (entries_text es ++ rest, is ∙ append_assoc (ended (entry_line entry)) (entries_text es) rest)

same_first : (v : ℕ) (a b : Entry) (es es' : List Entry) (rest rest' : List ℕ) → HasLineIn v a → HasLineIn v b
    → entries_text (a ∷ es) ++ rest ≡ entries_text (b ∷ es') ++ rest'
    → (a ≡ b) × (entries_text es ++ rest ≡ entries_text es' ++ rest')
same_first v a b es es' rest rest' has has' is =
    let same =
    same_ended (entry_line a) (entry_line b) (entries_text es ++ rest) (entries_text es' ++ rest')
    (entry_plain a has.line.fits) (entry_plain b has'.line.fits)
    (sym (append_assoc (ended (entry_line a)) (entries_text es) rest) ∙ is
    ∙ append_assoc (ended (entry_line b)) (entries_text es') rest') in
    (one_entry a b has.line.fits has'.line.fits same.prefix, same.back)

same_begin : (v : ℕ) (es es' : List Entry) (rest rest' : List ℕ) → AllByRecursion (HasLineIn v) es
    → AllByRecursion (HasLineIn v) es' → IsStuck v rest → IsStuck v rest'
    → entries_text es ++ rest ≡ entries_text es' ++ rest' → SameBegin es es' rest rest'
same_begin v [] [] rest rest' all all' stuck stuck' is = record { entries = refl; rests = is }
same_begin v [] (b ∷ es') rest rest' all all' stuck stuck' is = absurd (stuck b all'.0 (first_begins b es' rest' rest is))
same_begin v (a ∷ es) [] rest rest' all all' stuck stuck' is =
    absurd (stuck' a all.0 (first_begins a es rest rest' (sym is)))
same_begin v (a ∷ es) (b ∷ es') rest rest' all all' stuck stuck' is =
    let first = same_first v a b es es' rest rest' all.0 all'.0 is in
    let more = same_begin v es es' rest rest' all.1 all'.1 stuck stuck' first.1 in
    record { entries = ap₂ (λ e l. e ∷ l) first.0 more.entries; rests = more.rests }

-- a list of entries after which there is another is shorter than one after which there is none
is_longer : (v : ℕ) (es es' : List Entry) (rest rest' : List ℕ) (entry : Entry) → AllByRecursion (HasLineIn v) es
    → AllByRecursion (HasLineIn v) es' → HasLineIn v entry
    → BeginsWith rest (entry_line entry) → IsStuck v rest' → entries_text es ++ rest ≡ entries_text es' ++ rest'
    → length es < length es'
is_longer v [] [] rest rest' entry all all' has begins stuck is =
    absurd (stuck entry has (subst (λ t. BeginsWith t (entry_line entry)) is begins))
is_longer v [] (b ∷ es') rest rest' entry all all' has begins stuck is = omega arith
is_longer v (a ∷ es) [] rest rest' entry all all' has begins stuck is =
    absurd (stuck a all.0 (first_begins a es rest rest' (sym is)))
is_longer v (a ∷ es) (b ∷ es') rest rest' entry all all' has begins stuck is =
    omega (
      arith,
      is_longer v es es' rest rest' entry all.1 all'.1 has begins stuck
          (same_first v a b es es' rest rest' all.0 all'.0 is).1,
    )

-- ---- readings

module _ (text : List ℕ) where
  record SameBodies (v v' m m' : ℕ) (es es' : List Entry) (rest rest' : List ℕ) : Type 0 where
    names : SameNames v v' m m'
    bodies : entries_text es ++ rest ≡ entries_text es' ++ rest'

  same_bodies : (v v' m m' : ℕ) (es es' : List Entry) (rest rest' : List ℕ) → Begins text v m es rest
      → Begins text v' m' es' rest' → SameBodies v v' m m' es es' rest rest'
  same_bodies v v' m m' es es' rest rest' b b' =
      let same =
      same_ended b.first b'.first (entries_text es ++ rest) (entries_text es' ++ rest')
      (first_plain v m b.first b.names) (first_plain v' m' b'.first b'.names)
      (sym (body_of text rest b.first es b.spelled) ∙ body_of text rest' b'.first es' b'.spelled) in
      record {
        names = same_names v v' m m' b'.first (subst (IsFirstLine v m) same.prefix b.names) b'.names;
        bodies = same.back;
      }

  -- the lines of both are those of one version
  lines_of : (v v' m : ℕ) (es : List Entry) (rest : List ℕ) → Begins text v' m es rest → v ≡ v'
      → AllByRecursion (HasLineIn v) es
  lines_of v v' m es rest b same =
      subst (λ n. AllByRecursion (HasLineIn n) es) (sym same) (recursion_from_All (HasLineIn v') es b.lines)

  same : (v v' m m' : ℕ) (es es' : List Entry) (rest rest' : List ℕ) → Begins text v m es rest
      → Begins text v' m' es' rest' → IsStuck v rest → IsStuck v' rest' → SameBegin es es' rest rest'
  same v v' m m' es es' rest rest' b b' stuck stuck' =
      let bodies = same_bodies v v' m m' es es' rest rest' b b' in
      let version = bodies.names.version in
      same_begin v es es' rest rest' (lines_of v v m es rest b refl) (lines_of v v' m' es' rest' b' version)
      stuck (subst (λ n. IsStuck n rest') (sym version) stuck') bodies.bodies

  -- after a million entries there is another, or there is none
  not_both : (v v' m m' : ℕ) (es es' : List Entry) (rest rest' : List ℕ) (entry : Entry) → Begins text v m es rest
      → Begins text v' m' es' rest' → length es ≡ 1000000
      → HasLineIn v entry → BeginsWith rest (entry_line entry) → IsStuck v' rest' → ⊥
  not_both v v' m m' es es' rest rest' entry b b' full has begins stuck =
      let bodies = same_bodies v v' m m' es es' rest rest' b b' in
      let version = bodies.names.version in
      omega (
        arith,
        full,
        b'.few,
        is_longer v es es' rest rest' entry (lines_of v v m es rest b refl) (lines_of v v' m' es' rest' b' version)
            has begins (subst (λ n. IsStuck n rest') (sym version) stuck) bodies.bodies,
      )

  abbrev NoFirstLine : Type 0
  NoFirstLine = (v m : ℕ) (line : List ℕ) → IsFirstLine v m line → BeginsWith text line → ⊥

  none_begins : (v m : ℕ) (es : List Entry) (rest : List ℕ) → NoFirstLine → Begins text v m es rest → ⊥
  none_begins v m es rest none b = none v m b.first b.names (begins_first text rest v m es b)

  pub one_reading : (r s : Result (ℕ × List Entry) BookFault) → IsReadAs text r → IsReadAs text s → r ≡ s
  one_reading r s (IsReadAs.no_version none other) (IsReadAs.no_version none' other') = refl
  one_reading r s (IsReadAs.no_version none other) (IsReadAs.other_version o is begins) = absurd (other o is begins)
  one_reading r s (IsReadAs.no_version none other) (IsReadAs.history v m es b) =
      absurd (none_begins v m es [] none b)
  one_reading r s (IsReadAs.no_version none other) (IsReadAs.bad_line v m es rest b some stuck) =
      absurd (none_begins v m es rest none b)
  one_reading r s (IsReadAs.no_version none other) (IsReadAs.too_long v m es rest e b full has begins) =
      absurd (none_begins v m es rest none b)
  one_reading r s (IsReadAs.other_version o is begins) (IsReadAs.no_version none other) = absurd (other o is begins)
  one_reading r s (IsReadAs.other_version o is begins) (IsReadAs.other_version o' is' begins') = refl
  one_reading r s (IsReadAs.other_version o is begins) (IsReadAs.history v m es b) =
      absurd (no_other_version text [] v m es o b is begins)
  one_reading r s (IsReadAs.other_version o is begins) (IsReadAs.bad_line v m es rest b some stuck) =
      absurd (no_other_version text rest v m es o b is begins)
  one_reading r s (IsReadAs.other_version o is begins) (IsReadAs.too_long v m es rest e b full has begins') =
      absurd (no_other_version text rest v m es o b is begins)
  one_reading r s (IsReadAs.history v m es b) (IsReadAs.no_version none other) =
      absurd (none_begins v m es [] none b)
  one_reading r s (IsReadAs.history v m es b) (IsReadAs.other_version o is begins) =
      absurd (no_other_version text [] v m es o b is begins)
  one_reading r s (IsReadAs.history v m es b) (IsReadAs.history v' m' es' b') =
      ap₂ (λ (n : ℕ) (l : List Entry). Ok (n, l)) (same_bodies v v' m m' es es' [] [] b b').names.modulus
      (same v v' m m' es es' [] [] b b' (stuck_at_end v) (stuck_at_end v')).entries
  one_reading r s (IsReadAs.history v m es b) (IsReadAs.bad_line v' m' es' rest b' some stuck) =
      absurd (some (sym (same v v' m m' es es' [] rest b b' (stuck_at_end v) stuck).rests))
  one_reading r s (IsReadAs.history v m es b) (IsReadAs.too_long v' m' es' rest e b' full has begins) =
      absurd (not_both v' v m' m es' es rest [] e b' b full has begins (stuck_at_end v))
  one_reading r s (IsReadAs.bad_line v m es rest b some stuck) (IsReadAs.no_version none other) =
      absurd (none_begins v m es rest none b)
  one_reading r s (IsReadAs.bad_line v m es rest b some stuck) (IsReadAs.other_version o is begins) =
      absurd (no_other_version text rest v m es o b is begins)
  one_reading r s (IsReadAs.bad_line v m es rest b some stuck) (IsReadAs.history v' m' es' b') =
      absurd (some (same v v' m m' es es' rest [] b b' stuck (stuck_at_end v')).rests)
  one_reading r s (IsReadAs.bad_line v m es rest b some stuck)
      (IsReadAs.bad_line v' m' es' rest' b' some' stuck') =
      ap (λ (l : List Entry). Err (BadLine (length l + 2)))
      (same v v' m m' es es' rest rest' b b' stuck stuck').entries
  one_reading r s (IsReadAs.bad_line v m es rest b some stuck)
      (IsReadAs.too_long v' m' es' rest' e b' full has begins) =
      absurd (not_both v' v m' m es' es rest' rest e b' b full has begins stuck)
  one_reading r s (IsReadAs.too_long v m es rest e b full has begins) (IsReadAs.no_version none other) =
      absurd (none_begins v m es rest none b)
  one_reading r s (IsReadAs.too_long v m es rest e b full has begins) (IsReadAs.other_version o is begins') =
      absurd (no_other_version text rest v m es o b is begins')
  one_reading r s (IsReadAs.too_long v m es rest e b full has begins) (IsReadAs.history v' m' es' b') =
      absurd (not_both v v' m m' es es' rest [] e b b' full has begins (stuck_at_end v'))
  one_reading r s (IsReadAs.too_long v m es rest e b full has begins)
      (IsReadAs.bad_line v' m' es' rest' b' some stuck) =
      absurd (not_both v v' m m' es es' rest rest' e b b' full has begins stuck)
  one_reading r s (IsReadAs.too_long v m es rest e b full has begins)
      (IsReadAs.too_long v' m' es' rest' e' b' full' has' begins') = refl
