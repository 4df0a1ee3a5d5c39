-- What a history's text is read as, line by line.
use Rattle.std.proofs.Common.{◌≡◌, ◌≢◌, ℕ, ◌+◌, ◌<◌, ◌≤◌, ◌^◌, List, []}
use Rattle.std.proofs.Common.{◌∷◌, ◌++◌, Option, None, Some, IfErr, IfOk, OnOk, Result, Ok, Err, length, refl}
use Rattle.std.proofs.Common.{sym, ap, subst, ◌∙◌, arith, Vec, Global, append_assoc, append-nil}
use Rattle.std.specs.Prelude.{codes}
use Rattle.std.specs.Fmt.{decimal}
use Rattle.std.specs.Io.KnownBytes.{Consumes, IsAtEnd}
use Rattle.std.proofs.lemmas.Fmt.{length-decimal-le}
use Rattle.std.proofs.lemmas.List.{length-append}
use Rattle.std.proofs.lemmas.List.Elements.{All-push}
use Rattle.action_tables.specs.Cuts.{HasNo}
use Rattle.action_tables.specs.LawsOfCuts.{HasNo-append, has_byte}
use Rattle.action_tables.specs.Modulus.{IsModulus}
use Rattle.reset_model.specs.EventText as event
use Rattle.reset_model.specs.declared.event.Event.{Event}
use Rattle.fault_inject.specs.FaultText as fault
use Rattle.fault_inject.specs.declared.fault.Fault.{Fault}
use Rattle.fault_inject.proofs.FaultLines.{one_fault}
use Rattle.history.specs.declared.entry.Entry.{Entry}
use Rattle.history.specs.declared.entry.Entry.TheVariants.{Step, Disturbed}
use Rattle.history.specs.declared.lines.Lines.{Lines}
use Rattle.history.specs.declared.lines.Reading.{Reading}
use Rattle.history.specs.declared.read.BookText.{BookText}
use Rattle.history.specs.declared.read.Header.{Header}
use Rattle.history.specs.declared.text.BookFault.{BookFault}
use Rattle.history.specs.declared.text.BookFault.TheVariants.{BadLine, BadVersion, TooLong, NoMemory, ReadFailed}
use Rattle.history.specs.HistoryText.{Begins, BeginsWith, HasLineIn, IsInVersion, IsPrintable, IsReadAs, IsReadWhole}
use Rattle.history.specs.HistoryText.{IsFirstLine, IsOtherVersion, ended, entries_text, entry_line, lines_text}
use Rattle.history.specs.HistoryText.{version_1, version_2, version_3, version_line}
use Rattle.history.specs.Reading.{GoesOn, HasRead, IsBadVersion, IsFaulty, IsSoFar, next_line}
use Rattle.history.proofs.HistoryLines.{entry_plain}
use Rattle.history.proofs.FirstLines.{first_plain, version_plain}
use Rattle.history.proofs.HistoryReadings.{IsStuck, same_ended}

-- ---- a line's end

-- a text without a line feed begins with no line
no_whole : (text line : List ℕ) → HasNo 10 text → BeginsWith text line → ⊥
no_whole text line plain (rest, is) =
    has_byte 10 line rest (subst (HasNo 10) (is ∙ append_assoc line (10 ∷ []) rest) plain)

-- a line ends before a longer text without a line feed does not
no_late : (line long rest more : List ℕ) → HasNo 10 long → length line < length long → line ++ 10 ∷ rest ≡ long ++ more
    → ⊥
no_late line [] rest more plain short is = omega (arith, short)
no_late [] (b ∷ long) rest more plain short is = plain.0 (first 10 b rest (long ++ more) is)
  where
    first : (x y : ℕ) (xs ys : List ℕ) → ◌≡◌ {A = List ℕ} (x ∷ xs) (y ∷ ys) → y ≡ x
    first x y xs ys e = cc
no_late (a ∷ line) (b ∷ long) rest more plain short is =
    no_late line long rest more plain.1 (omega (arith, short)) (others a b (line ++ 10 ∷ rest) (long ++ more) is)
  where
    others : (x y : ℕ) (xs ys : List ℕ) → ◌≡◌ {A = List ℕ} (x ∷ xs) (y ∷ ys) → xs ≡ ys
    others x y xs ys e = cc

begins_late : (line long more : List ℕ) → HasNo 10 long → length line < length long → BeginsWith (long ++ more) line → ⊥
begins_late line long more plain short (rest, is) =
    no_late line long rest more plain short (sym (append_assoc line (10 ∷ []) rest) ∙ sym is)

-- a whole line that begins a text is its first
begins_same : (line line' more : List ℕ) → HasNo 10 line → HasNo 10 line' → BeginsWith (ended line ++ more) line'
    → line ≡ line'
begins_same line line' more plain plain' (rest, is) = (same_ended line line' more rest plain plain' is).prefix

-- ---- what goes on

pub goes_on : (now : Option Header) (es : List Entry) (line bytes text : List ℕ) → IsSoFar now es line text
    → IsSoFar now es (line ++ bytes) (text ++ bytes)
goes_on (Some h) es line bytes text b = record {
  first = b.first;
  names = b.names;
  lines = b.lines;
  few = b.few;
  spelled = ap (λ t. t ++ bytes) b.spelled ∙ append_assoc (lines_text b.first es) line bytes;
}
goes_on None es line bytes text is = (is.0, ap (λ t. t ++ bytes) is.1)

is_some : (xs ys : List ℕ) → 0 < length xs → xs ++ ys ≢ []
is_some xs ys some is = omega (arith, some, length-append xs ys, ap length is)

-- a text can't go on so, where what comes after its whole lines begins with no line
bad_next : (now : Option Header) (es : List Entry) (line text : List ℕ) → IsSoFar now es line text → 0 < length line
    → ((v : ℕ) → IsStuck v line)
    → ((v m : ℕ) (first : List ℕ) → IsFirstLine v m first → BeginsWith line first → ⊥)
    → ((v : ℕ) → IsOtherVersion v → BeginsWith line (version_line v) → ⊥)
    → IsReadAs text (Err (BadLine (next_line now (length es))))
bad_next (Some h) es line text b some stuck none other =
    IsReadAs.bad_line h.version h.modulus es line b (λ is. omega (arith, some, ap length is)) (stuck h.version)
bad_next None es line text is some stuck none other =
    IsReadAs.no_version
    (λ v m first names begins. none v m first names (subst (λ t. BeginsWith t first) is.1 begins))
    (λ v is_other begins. other v is_other (subst (λ t. BeginsWith t (version_line v)) is.1 begins))

-- the line goes on
pub has_more : (r : Reading) (new : Vec ℕ Global) (before : List Entry) (bytes text : List ℕ) → HasRead r before text
    → HasNo 10 bytes → new.items ≡ r.line.items ++ bytes → length bytes + length r.line.items ≤ 256
    → HasRead (record { lines = r.lines; line = new }) before (text ++ bytes)
has_more r new before bytes text read plain is short = record {
  lines = record {
    counted = read.lines.counted;
    so_far =
        let es = before ++ r.lines.entries.items in
        subst (λ line. IsSoFar r.lines.header es line (text ++ bytes)) (sym is)
        (goes_on r.lines.header es r.line.items bytes text read.lines.so_far);
  };
  plain = subst (HasNo 10) (sym is) (HasNo-append 10 r.line.items bytes read.plain plain);
  short = omega (arith, ap length is, length-append r.line.items bytes, short);
}

-- the whole lines of a text, before the line that goes on
pub record WholeLines (lines : Lines) (before : List Entry) (line text : List ℕ) : Type 0 where
  pub whole : List ℕ
  pub on : GoesOn lines before [] whole
  pub cut : text ≡ whole ++ line

pub whole_lines : (lines : Lines) (before : List Entry) (line text : List ℕ) → GoesOn lines before line text
    → WholeLines lines before line text
whole_lines lines before line text on = of lines.header (before ++ lines.entries.items) on.so_far (λ whole so_far cut.
    record { whole = whole; on = record { counted = on.counted; so_far = so_far }; cut = cut })
  where
    of : (now : Option Header) (es : List Entry) → IsSoFar now es line text
        → ((whole : List ℕ) → IsSoFar now es [] whole → text ≡ whole ++ line → WholeLines lines before line text)
        → WholeLines lines before line text
    of (Some h) es b k =
        k (lines_text b.first es)
        (record {
          first = b.first;
          names = b.names;
          lines = b.lines;
          few = b.few;
          spelled = sym (append-nil (lines_text b.first es));
        }) b.spelled
    of None es b k = k [] (b.0, refl) b.1

-- the line ends
pub ended_at : (whole line text bytes : List ℕ) → text ++ bytes ≡ whole ++ line
    → whole ++ ended line ≡ text ++ ended bytes
ended_at whole line text bytes cut =
    sym (append_assoc whole line (10 ∷ [])) ∙ ap (λ t. t ++ 10 ∷ []) (sym cut) ∙ append_assoc text bytes (10 ∷ [])

-- a fault stays one however the text goes on
pub faulty_on : (text bytes : List ℕ) (fault : BookFault) → IsFaulty (text ++ bytes) fault
    → IsFaulty (text ++ ended bytes) fault
faulty_on text bytes fault faulty more =
    subst (λ t. IsReadAs t (Err fault))
    (sym (append_assoc (text ++ bytes) (10 ∷ []) more) ∙ ap (λ t. t ++ more) (append_assoc text bytes (10 ∷ [])))
    (faulty (10 ∷ more))

-- what is left of some bytes, after one line more
pub fed_line : (done rest line after bytes : List ℕ) → bytes ≡ done ++ rest → rest ≡ line ++ 10 ∷ after
    → bytes ≡ (done ++ ended line) ++ after
fed_line done rest line after bytes cut found =
    cut ∙ ap (λ t. done ++ t) (found ∙ sym (append_assoc line (10 ∷ []) after))
    ∙ sym (append_assoc done (ended line) after)

-- a fault that is told before all of the bytes
pub faulty_more : (text done rest line after bytes : List ℕ) (fault : BookFault) → bytes ≡ done ++ rest
    → rest ≡ line ++ 10 ∷ after
    → IsFaulty ((text ++ done) ++ ended line) fault → IsFaulty (text ++ bytes) fault
faulty_more text done rest line after bytes fault cut found faulty more =
    subst (λ t. IsReadAs t (Err fault))
    (sym (append_assoc ((text ++ done) ++ ended line) after more)
    ∙ ap (λ t. t ++ more)
    (ap (λ t. t ++ after) (append_assoc text done (ended line)) ∙ append_assoc text (done ++ ended line) after
    ∙ ap (λ t. text ++ t) (sym (fed_line done rest line after bytes cut found))))
    (faulty (after ++ more))

-- a line of over 256 bytes
pub bad_long : (now : Option Header) (es : List Entry) (line bytes text : List ℕ) → IsSoFar now es line text → HasNo 10 line
    → HasNo 10 bytes
    → 256 < length bytes + length line → IsFaulty (text ++ bytes) (BadLine (next_line now (length es)))
bad_long now es line bytes text so plain plain' long more =
    let all : HasNo 10 (line ++ bytes) = HasNo-append 10 line bytes plain plain' in
    let size = length-append line bytes in
    let late : (other : List ℕ) → length other ≤ 256 → BeginsWith ((line ++ bytes) ++ more) other → ⊥ =
    λ other short begins. begins_late other (line ++ bytes) more all (omega (arith, size, long, short)) begins in
    bad_next now es ((line ++ bytes) ++ more) ((text ++ bytes) ++ more)
    (goes_on now es (line ++ bytes) more (text ++ bytes) (goes_on now es line bytes text so))
    (omega (arith, size, long, length-append (line ++ bytes) more))
    (λ v entry has begins. late (entry_line entry) has.line.short begins)
    (λ v m first names begins. late first (short_first v m first names) begins)
    (λ v other begins. late (version_line v) (short_version v other.small) begins)
  where
    short_version : (v : ℕ) → v < 2 ^ 32 → length (version_line v) ≤ 256
    short_version v small =
        omega (
          arith,
          length-append (codes "reset-history ") (decimal v),
          length-decimal-le 10 v (omega arith)
              (omega (arith, small)) (omega (arith, small)),
        )

    short_numbered : (start first : List ℕ) (m : ℕ) → length start ≤ 16 → first ≡ start ++ decimal m → IsModulus m
        → length first ≤ 256
    short_numbered start first m few is counted =
        omega (
          arith,
          few,
          ap length is,
          length-append start (decimal m),
          length-decimal-le 10 m (omega arith)
              (omega (arith, counted.wide)) (omega (arith, counted.wide)),
        )

    short_first : (v m : ℕ) (first : List ℕ) → IsFirstLine v m first → length first ≤ 256
    short_first v m first (version_1 one wide is) = omega (arith, ap length is)
    short_first v m first (version_2 two counted is) =
        short_numbered (codes "reset-history 2 ") first m (omega arith) is counted
    short_first v m first (version_3 three counted is) =
        short_numbered (codes "reset-history 3 ") first m (omega arith) is counted

-- a text that ends in a line without its line feed, or before its first
pub bad_end : (now : Option Header) (es : List Entry) (line text : List ℕ) → IsSoFar now es line text → HasNo 10 line
    → (now ≢ None → line ≢ [])
    → IsReadAs text (Err (BadLine (next_line now (length es))))
bad_end (Some h) es line text b plain some =
    IsReadAs.bad_line h.version h.modulus es line b (some (λ is. some-none h is))
    (λ entry has begins. no_whole line (entry_line entry) plain begins)
  where
    some-none : (h : Header) → Some h ≢ None
    some-none h is = cc
bad_end None es line text is plain some =
    IsReadAs.no_version
    (λ v m first names begins. no_whole line first plain (subst (λ t. BeginsWith t first) is.1 begins))
    (λ v other begins. no_whole line (version_line v) plain
    (subst (λ t. BeginsWith t (version_line v)) is.1 begins))

-- a text that ends after whole lines
pub good_end : (h : Header) (es : List Entry) (line text : List ℕ) → IsSoFar (Some h) es line text → length line ≡ 0
    → IsReadAs text (Ok (h.modulus, es))
good_end h es [] text so none = IsReadAs.history h.version h.modulus es so
good_end h es (b ∷ line) text so none = absurd (omega (arith, none))

-- ---- whole lines

-- a first line
pub begun_by : (h : Header) (es : List Entry) (line text : List ℕ) → IsSoFar None es [] text
    → IsFirstLine h.version h.modulus line → IsSoFar (Some h) es [] (text ++ ended line)
begun_by h es line text so names = record {
  first = line;
  names = names;
  lines = λ k d few. absurd (omega (arith, few, ap length so.0));
  few = omega (arith, ap length so.0);
  spelled =
      ap (λ t. t ++ ended line) so.1 ∙ sym (append-nil (ended line)) ∙ ap (λ t. t ++ []) (sym (append-nil (ended line)))
      ∙ sym (ap (λ es'. (ended line ++ entries_text es') ++ []) so.0);
}

pub bad_version : (es : List Entry) (line text : List ℕ) (fault : BookFault) → IsSoFar None es [] text → HasNo 10 line
    → IsBadVersion line fault → IsFaulty (text ++ ended line) fault
bad_version es line text (BadLine n) so plain bad = λ more.
    let first : (other : List ℕ) → HasNo 10 other → BeginsWith ((text ++ ended line) ++ more) other → line ≡ other =
    λ other plain' begins. begins_same line other more plain plain'
    (subst (λ t. BeginsWith ((t ++ ended line) ++ more) other) so.1 begins) in
    subst (λ k. IsReadAs ((text ++ ended line) ++ more) (Err (BadLine k))) (sym bad.0)
    (IsReadAs.no_version
    (λ v m other names begins. bad.1 v m
    (subst (IsFirstLine v m) (sym (first other (first_plain v m other names) begins)) names))
    (λ v other begins. bad.2 v other (first (version_line v) (version_plain v other.small) begins)))
bad_version es line text BadVersion so plain bad = λ more.
    let (v, other, spelled) = bad in
    IsReadAs.other_version v other
    (more, ap (λ t. (t ++ ended line) ++ more) so.1 ∙ ap (λ l. ended l ++ more) spelled)
bad_version es line text TooLong so plain bad = absurd bad
bad_version es line text NoMemory so plain bad = absurd bad
bad_version es line text ReadFailed so plain bad = absurd bad

-- an entry's line
one_more : (v m : ℕ) (es : List Entry) (entry : Entry) (line text : List ℕ) → Begins text v m es []
    → length es ≢ 1000000 → HasLineIn v entry → line ≡ entry_line entry
    → Begins (text ++ ended line) v m (es ++ entry ∷ []) []
one_more v m es entry line text b some has same = record {
  first = b.first;
  names = b.names;
  lines = All-push (HasLineIn v) es entry b.lines has;
  few = omega (arith, length-append es (entry ∷ []), b.few, some);
  spelled =
      ap (λ t. t ++ ended line) (b.spelled ∙ append-nil (lines_text b.first es))
      ∙ ap (λ l. lines_text b.first es ++ ended l) same
      ∙ append_assoc (ended b.first) (entries_text es) (ended (entry_line entry))
      ∙ ap (λ t. ended b.first ++ t) (sym (texts es entry))
      ∙ sym (append-nil (lines_text b.first (es ++ entry ∷ [])));
}
  where
    texts : (es : List Entry) (entry : Entry)
        → entries_text (es ++ entry ∷ []) ≡ entries_text es ++ ended (entry_line entry)
    texts [] entry = append-nil (ended (entry_line entry))
    texts (e ∷ es) entry =
        ap (λ t. ended (entry_line e) ++ t) (texts es entry)
        ∙ sym (append_assoc (ended (entry_line e)) (entries_text es) (ended (entry_line entry)))

-- the text goes on with a whole line
with_line : (h : Header) (es : List Entry) (line text more : List ℕ) → IsSoFar (Some h) es [] text
    → IsSoFar (Some h) es (ended line ++ more) ((text ++ ended line) ++ more)
with_line h es line text more so =
    goes_on (Some h) es (ended line) more (text ++ ended line) (goes_on (Some h) es [] (ended line) text so)

-- the first line was read, and said this
module _ (now : Option Header) (h : Header) (is : now ≡ Some h) where
  abbrev header_in : (es : List Entry) (line text : List ℕ) → IsSoFar now es line text → IsSoFar (Some h) es line text
  header_in es line text so = subst (λ o. IsSoFar o es line text) is so

  -- the entry is kept and counted
  pub one_kept : (count : ℕ) (before es new : List Entry) (entry : Entry) (line text : List ℕ)
      → count ≡ length (before ++ es) → IsSoFar now (before ++ es) [] text → count ≢ 1000000
      → HasLineIn h.version entry → line ≡ entry_line entry → new ≡ es ++ entry ∷ []
      → (count + 1 ≡ length (before ++ new)) × IsSoFar now (before ++ new) [] (text ++ ended line)
  one_kept count before es new entry line text counted so some has same kept =
      let more : before ++ new ≡ (before ++ es) ++ entry ∷ [] =
      ap (λ l. before ++ l) kept ∙ sym (append_assoc before es (entry ∷ [])) in (
        omega (arith, counted, ap length more, length-append (before ++ es) (entry ∷ [])),
        subst (λ l. IsSoFar now l [] (text ++ ended line)) (sym more)
            (subst (λ o. IsSoFar o ((before ++ es) ++ entry ∷ []) [] (text ++ ended line)) (sym is)
            (one_more h.version h.modulus (before ++ es) entry line text (header_in (before ++ es) [] text so)
            (λ full. some (counted ∙ full)) has same)),
      )

  pub no_entry : (es : List Entry) (line text : List ℕ) → IsSoFar now es [] text → HasNo 10 line
      → ((entry : Entry) → HasLineIn h.version entry → line ≡ entry_line entry → ⊥)
      → IsFaulty (text ++ ended line) (BadLine (next_line now (length es)))
  no_entry es line text so plain none =
      subst (λ o. IsFaulty (text ++ ended line) (BadLine (next_line o (length es)))) (sym is)
      (λ more.
      IsReadAs.bad_line h.version h.modulus es (ended line ++ more)
      (with_line h es line text more (header_in es [] text so))
      (is_some (ended line) more (omega (arith, length-append line (10 ∷ []))))
      (λ entry has begins. none entry has
      (begins_same line (entry_line entry) more plain (entry_plain entry has.line.fits) begins)))

  pub too_many : (es : List Entry) (entry : Entry) (line text : List ℕ) → IsSoFar now es [] text
      → length es ≡ 1000000 → HasLineIn h.version entry → line ≡ entry_line entry
      → IsFaulty (text ++ ended line) TooLong
  too_many es entry line text so full has same = λ more.
      IsReadAs.too_long h.version h.modulus es (ended line ++ more) entry
      (with_line h es line text more (header_in es [] text so)) full has
      (more, ap (λ l. ended l ++ more) same)

-- ---- lines of no entry

module _ (v : ℕ) (line : List ℕ) where
  -- the line is that of no fault that this version has
  abbrev pub IsNoFault : Type 0
  IsNoFault = (f : Fault) → fault.Fits f → IsPrintable f → IsInVersion v (Disturbed f) → line ≡ fault.fault_line f → ⊥

  pub is_no_entry : ((e : Event) → event.Fits e → line ≡ event.event_line e → ⊥) → IsNoFault → (entry : Entry)
      → HasLineIn v entry → line ≡ entry_line entry → ⊥
  is_no_entry no_event no_fault (Step e) has is = no_event e has.line.fits is
  is_no_entry no_event no_fault (Disturbed f) has is =
      no_fault f has.line.fits.0 has.line.fits.1 has.known is

  -- the line of a fault whose text isn't printable, or that the version lacks
  pub is_other_fault : (g : Fault) → fault.Fits g → line ≡ fault.fault_line g
      → (IsPrintable g × IsInVersion v (Disturbed g) → ⊥) → IsNoFault
  is_other_fault g fits spelled none f fits' printable known is =
      none
      (subst (λ h. IsPrintable h × IsInVersion v (Disturbed h)) (one_fault f g fits' fits (sym is ∙ spelled))
      (printable, known))

-- ---- what a reader gives

-- all was given
pub all_given : (a b : Option (List ℕ)) (given : List ℕ) → Consumes a b given → IsAtEnd b → IsReadWhole a given
all_given None b given consumed end = tt
all_given (Some x) None given consumed end = absurd consumed
all_given (Some x) (Some y) given consumed end = sym (consumed ∙ ap (λ t. given ++ t) end ∙ append-nil given)

-- what was given is a fault however it goes on
pub some_given : (a b : Option (List ℕ)) (given : List ℕ) (fault : BookFault) (reading : Reading)
    → Consumes a b given
    → ((before : List Entry) (text : List ℕ) → HasRead reading before text → IsFaulty (text ++ given) fault)
    → (rest : List ℕ) × IsReadWhole a rest
    × ((before : List Entry) (text : List ℕ) → HasRead reading before text → IsReadAs (text ++ rest) (Err fault))
some_given None b given fault reading consumed faulty = (
  given,
  tt,
  λ before text read. subst (λ t. IsReadAs t (Err fault)) (append-nil (text ++ given)) (faulty before text read []),
)
some_given (Some x) None given fault reading consumed faulty = absurd consumed
some_given (Some x) (Some y) given fault reading consumed faulty = (
  x,
  refl,
  λ before text read. subst (λ t. IsReadAs t (Err fault))
      (append_assoc text given y ∙ ap (λ t. text ++ t) (sym consumed)) (faulty before text read y),
)

-- all that the reader has left follows what it gave
pub whole_before : (a b : Option (List ℕ)) (given rest : List ℕ) → Consumes a b given → IsReadWhole b rest
    → IsReadWhole a (given ++ rest)
whole_before None b given rest consumed is = tt
whole_before (Some x) None given rest consumed is = absurd consumed
whole_before (Some x) (Some y) given rest consumed is = ap (λ t. given ++ t) is ∙ sym consumed

-- some text is all that a reader has
pub some_whole : (a : Option (List ℕ)) → (text : List ℕ) × IsReadWhole a text
some_whole None = ([], tt)
some_whole (Some x) = (x, refl)

-- all entries of what was given are kept
pub kept_ok : (a b : Option (List ℕ)) (given : List ℕ) (reading : Reading) (r : Result BookText BookFault)
    → Consumes a b given → IsAtEnd b → HasRead reading [] given
    → IfOk r (λ book. (text : List ℕ) → HasRead reading [] text
    → IsReadAs text (Ok (book.modulus, book.entries.items)))
    → IfOk r (λ book. (text : List ℕ) × IsReadWhole a text × IsReadAs text (Ok (book.modulus, book.entries.items)))
kept_ok a b given reading (Ok book) consumed end read kept =
    (given, all_given a b given consumed end, kept given read)
kept_ok a b given reading (Err fault) consumed end read kept = tt

pub kept_err : (a b : Option (List ℕ)) (given : List ℕ) (reading : Reading) (r : Result BookText BookFault)
    → Consumes a b given → IsAtEnd b → HasRead reading [] given
    → IfErr r (λ fault. (text : List ℕ) → HasRead reading [] text → IsReadAs text (Err fault))
    → IfErr r (λ fault. fault ≢ NoMemory → fault ≢ ReadFailed
    → (text : List ℕ) × IsReadWhole a text × IsReadAs text (Err fault))
kept_err a b given reading (Ok book) consumed end read kept = tt
kept_err a b given reading (Err fault) consumed end read kept =
    λ memory device. (given, all_given a b given consumed end, kept given read)

-- what ends at the end of its reader has read it whole
pub read_whole : {T E : Type 0} (r : Result T E) (a : Option (List ℕ)) → IsAtEnd a → OnOk r (IsAtEnd a)
read_whole (Ok x) a end = end
read_whole (Err e) a end = tt
