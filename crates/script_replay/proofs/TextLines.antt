-- The lines of a text that is cut at its first line feed.
use Rattle.std.proofs.Common.{◌≡◌, ◌≢◌, append-nil, ℕ, ◌+◌, ◌-◌, ◌<◌, ◌≤◌, Bool, true, false, List, [], ◌∷◌, ◌++◌, refl}
use Rattle.std.proofs.Common.{sym, ap, ◌∙◌, subst, append_assoc, arith, length, take, drop, Option, None, Some, cond}
use Rattle.std.proofs.Common.{ltb, ne_eqb}
use Rattle.std.specs.List.{position, position_or_len, join_with_byte, flat_map, onto_first}
use Rattle.std.proofs.Math.Seq.{take-append_seam}
use Rattle.std.proofs.lemmas.Bool.Decides.{nat_tests}
use Rattle.std.proofs.lemmas.Grind.{flat_map-append}
use Rattle.std.proofs.lemmas.List.{length-append}
use Rattle.std.proofs.lemmas.List.Elements.{All-append, All-cons, All-nil}
use Rattle.std.proofs.lemmas.List.Splits.{slice_split_none, slice_split_first, slice_split-cons_no, length-slice_split}
use Rattle.std.proofs.lemmas.List.Splits.{join_with_byte-slice_split}
use Rattle.std.proofs.lemmas.List.Sums.{fails_before_first, position_or_len_is}
use Rattle.memchr.specs.Find.{is_byte, IsFirstByte}
use Rattle.action_tables.specs.Cuts.{HasNo}
use Rattle.history.specs.HistoryText.{ended}
use Rattle.script_replay.specs.Lines.{is_line_feed, lines_of, separator, HasNoSeparator}

some_at : (b : Bool) (n i : ℕ) → cond b (Some n) None ≡ Some i → (b ≡ true) × (n ≡ i)
some_at true n i h = (refl, cc)
some_at false n i h = absurd (cc)

none_at : (b : Bool) (n : ℕ) → cond b (Some n) None ≡ None → b ≡ false
none_at true n h = cc
none_at false n h = refl

-- ---- the first line feed

not_true : (b : Bool) → (b ≡ true → ⊥) → b ≡ false
not_true true h = absurd (h refl)
not_true false h = refl

-- the first place of a line feed is where a search for the byte finds one
pub first_place : (text : List ℕ) (r : Option ℕ) → IsFirstByte (is_byte 10) text r → r ≡ position is_line_feed text
first_place text None none =
    let end =
    position_or_len_is is_line_feed text (length text) 0 (omega arith)
    (λ k below. not_true _ (none k (omega arith) below)) (λ h. absurd (omega (arith, h))) in
    rw end (grind (arith, nat_tests))
first_place text (Some k) (first, here) =
    let place =
    position_or_len_is is_line_feed text k 0 (omega (arith, first.high))
    (λ j below. not_true _ (first.before j (omega arith) below)) (λ _. here) in
    let inside : ltb k (length text) ≡ true = let high = first.high in grind (arith, nat_tests) in
    sym (rw (place, inside) refl)

no_line_feed : (text : List ℕ) → length text ≤ position_or_len is_line_feed text → lines_of text ≡ text ∷ []
no_line_feed text h =
    slice_split_none is_line_feed text (λ k d inside. fails_before_first is_line_feed text k d (omega arith))

pub uncut : (text : List ℕ) → position is_line_feed text ≡ None → lines_of text ≡ text ∷ []
uncut text h =
    let past = none_at (ltb (position_or_len is_line_feed text) (length text)) (position_or_len is_line_feed text) h in
    no_line_feed text (grind (arith, nat_tests))

cut_at : (text : List ℕ) (i : ℕ) → position_or_len is_line_feed text ≡ i → i < length text
    → lines_of text ≡ take i text ∷ lines_of (drop (i + 1) text)
cut_at text i e inside =
    subst (λ k. lines_of text ≡ take k text ∷ lines_of (drop (k + 1) text)) e
    (slice_split_first is_line_feed text 0 (omega arith))

pub cut : (text : List ℕ) (i : ℕ) → position is_line_feed text ≡ Some i
    → lines_of text ≡ take i text ∷ lines_of (drop (i + 1) text)
cut text i h =
    let place =
    some_at (ltb (position_or_len is_line_feed text) (length text)) (position_or_len is_line_feed text) i h in
    cut_at text i place.1 (grind (arith, nat_tests))

-- ---- a text that begins with a line and its line feed

lines_more : (line after : List ℕ) → HasNo 10 line → lines_of (line ++ (10 ∷ after)) ≡ line ∷ lines_of after
lines_more [] after none = refl
lines_more (b ∷ bs) after none =
    slice_split-cons_no is_line_feed b (bs ++ (10 ∷ after)) (ne_eqb b 10 none.0)
    ∙ ap (onto_first b) (lines_more bs after none.1)

pub lines_cut : (text line after : List ℕ) → HasNo 10 line → text ≡ line ++ 10 ∷ after
    → lines_of text ≡ line ∷ lines_of after
lines_cut text line after none is = ap lines_of is ∙ lines_more line after none

-- ---- a text is its lines, joined by line feeds

pub joined_lines : (text : List ℕ) → join_with_byte 10 (lines_of text) ≡ text
joined_lines text = join_with_byte-slice_split 10 text

join_more : (line : List ℕ) (lines : List (List ℕ)) → 0 < length lines
    → join_with_byte 10 (line ∷ lines) ≡ line ++ (10 ∷ join_with_byte 10 lines)
join_more line [] h = absurd (omega arith)
join_more line (l ∷ ls) h = refl

-- the first line with its line feed, and the rest
pub first_line : (text line rest : List ℕ) → lines_of text ≡ line ∷ lines_of rest → text ≡ ended line ++ rest
first_line text line rest h =
    sym (joined_lines text) ∙ ap (join_with_byte 10) h
    ∙ join_more line (lines_of rest) (omega (arith, length-slice_split is_line_feed rest))
    ∙ ap (λ l. line ++ (10 ∷ l)) (joined_lines rest) ∙ sym (append_assoc line (10 ∷ []) rest)

-- ---- the lines that were passed, and those that are left

pub passed_lines : (all rest after line : List ℕ) (prefix : List (List ℕ)) → lines_of all ≡ prefix ++ lines_of rest
    → lines_of rest ≡ line ∷ lines_of after
    → lines_of all ≡ (prefix ++ (line ∷ [])) ++ lines_of after
passed_lines all rest after line prefix p q =
    p ∙ ap (λ ls. prefix ++ ls) q ∙ sym (append_assoc prefix (line ∷ []) (lines_of after))

pub passed_text : (all rest after line : List ℕ) (prefix : List (List ℕ)) → all ≡ flat_map ended prefix ++ rest
    → lines_of rest ≡ line ∷ lines_of after
    → all ≡ flat_map ended (prefix ++ (line ∷ [])) ++ after
passed_text all rest after line prefix p q =
    p ∙ ap (λ l. flat_map ended prefix ++ l) (first_line rest line after q)
    ∙ sym (append_assoc (flat_map ended prefix) (ended line) after)
    ∙ ap (λ l. l ++ after)
    (sym (flat_map-append ended prefix (line ∷ []) ∙ ap (λ l. flat_map ended prefix ++ l) (append-nil (ended line))))

pub text_before : (all prefix rest : List ℕ) → all ≡ prefix ++ rest → take (length all - length rest) all ≡ prefix
text_before all prefix rest h =
    let count : length (prefix ++ rest) - length rest ≡ length prefix = omega (arith, length-append prefix rest) in
    rw h (rw count (take-append_seam prefix rest))

-- ---- separators

pub no_separator_more : (prefix : List (List ℕ)) (line : List ℕ) → HasNoSeparator prefix → line ≢ separator
    → HasNoSeparator (prefix ++ (line ∷ []))
no_separator_more prefix line h here =
    All-append (λ l. l ≢ separator) prefix (line ∷ []) h
    (All-cons (λ l. l ≢ separator) line [] here (All-nil (λ l. l ≢ separator)))
