-- The lines of a text of which more comes.
use Rattle.std.proofs.Common.{◌≡◌, ℕ, ◌==◌, Bool, true, false, List, [], ◌∷◌, ◌++◌, refl, sym, ap, ◌∙◌, append_assoc}
use Rattle.std.proofs.Common.{subst, append-nil, ne_eqb, arith, length, length-append, take, ◌<◌, ◌-◌}
use Rattle.std.specs.List.{onto_first}
use Rattle.std.proofs.lemmas.List.Splits.{length-slice_split, slice_split-cons_no, slice_split-cons_yes}
use Rattle.std.proofs.Math.Seq.{take-append_seam}
use Rattle.action_tables.specs.Cuts.{HasNo}
use Rattle.history.specs.HistoryText.{ended}
use Rattle.script_replay.specs.Lines.{is_line_feed, lines_of}
use Rattle.script_replay.proofs.TextLines.{first_line, lines_cut}

-- a list of lines that begins with this one
abbrev BeginsWithLine : List (List ℕ) → List ℕ → Type 0
BeginsWithLine lines line = (later : List (List ℕ)) × (lines ≡ line ∷ later)

onto_first-is : (b : ℕ) (bs : List ℕ) (lines : List (List ℕ)) → 0 < length lines
    → BeginsWithLine (onto_first b lines) (b ∷ bs) → BeginsWithLine lines bs
onto_first-is b bs [] some first = absurd (omega (arith, some))
onto_first-is b bs (l ∷ ls) some (later, is) = let same : l ≡ bs = cc in (ls, ap (λ x. x ∷ ls) same)

-- the first line of a text that begins with these bytes has no line feed
first_unbroken : (line rest : List ℕ) → BeginsWithLine (lines_of (line ++ rest)) line → HasNo 10 line
first_unbroken [] rest is = tt
first_unbroken (b ∷ bs) rest (later, is) = go (b == 10) refl (first_unbroken bs rest)
  where
    go : (same : Bool) → (b == 10) ≡ same → (BeginsWithLine (lines_of (bs ++ rest)) bs → HasNo 10 bs)
        → HasNo 10 (b ∷ bs)
    go true here more =
        let cut : lines_of (b ∷ (bs ++ rest)) ≡ [] ∷ lines_of (bs ++ rest) =
        slice_split-cons_yes is_line_feed b (bs ++ rest) here in
        let no : [] ∷ lines_of (bs ++ rest) ≡ (b ∷ bs) ∷ later = sym cut ∙ is in absurd (cc)
    go false other more =
        let cut : lines_of (b ∷ (bs ++ rest)) ≡ onto_first b (lines_of (bs ++ rest)) =
        slice_split-cons_no is_line_feed b (bs ++ rest) other in
        let some : 0 < length (lines_of (bs ++ rest)) =
        omega (arith, length-slice_split is_line_feed (bs ++ rest)) in (
          λ e. let here : (b == 10) ≡ true = rw e refl in absurd (cc),
          more (onto_first-is b bs (lines_of (bs ++ rest)) some (later, sym cut ∙ is)),
        )

pub line_unbroken : (text line after : List ℕ) → lines_of text ≡ line ∷ lines_of after → HasNo 10 line
line_unbroken text line after is =
    let whole : text ≡ line ++ (10 ∷ after) =
    first_line text line after is ∙ append_assoc line (10 ∷ []) after in
    first_unbroken line (10 ∷ after) (lines_of after, ap lines_of (sym whole) ∙ is)

-- the first line of a text with its line feed
pub line_with_feed : (text line after : List ℕ) → lines_of text ≡ line ∷ lines_of after
    → take (length text - length after) text ≡ ended line
line_with_feed text line after is =
    let whole : text ≡ ended line ++ after = first_line text line after is in
    let count : length text - length after ≡ length (ended line) =
    omega (arith, ap length whole, length-append (ended line) after) in
    ap (λ n. take n text) count ∙ ap (take (length (ended line))) whole ∙ take-append_seam (ended line) after

pub rest_unbroken : (text : List ℕ) → lines_of text ≡ text ∷ [] → HasNo 10 text
rest_unbroken text is = first_unbroken text [] (subst (λ t. BeginsWithLine (lines_of t) text) (sym (append-nil text)) ([], is))

pub unbroken_on : (xs ys : List ℕ) → HasNo 10 xs → HasNo 10 ys → HasNo 10 (xs ++ ys)
unbroken_on [] ys a b = b
unbroken_on (x ∷ xs) ys (here, a) b = (here, unbroken_on xs ys a b)

-- a line that was begun ends
pub line_ends : (begun line more : List ℕ) → HasNo 10 begun → HasNo 10 line
    → lines_of (begun ++ (ended line ++ more)) ≡ (begun ++ line) ∷ lines_of more
line_ends begun line more a b =
    lines_cut (begun ++ (ended line ++ more)) (begun ++ line) more (unbroken_on begun line a b)
    (ap (λ t. begun ++ t) (append_assoc line (10 ∷ []) more) ∙ sym (append_assoc begun line (10 ∷ more)))

pub whole_line : (line : List ℕ) → HasNo 10 line → lines_of line ≡ line ∷ []
whole_line [] none = refl
whole_line (b ∷ bs) (here, none) =
    slice_split-cons_no is_line_feed b bs (ne_eqb b 10 here) ∙ ap (onto_first b) (whole_line bs none)
