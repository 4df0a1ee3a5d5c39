-- The lines of entries, segment by segment.
use Rattle.std.proofs.Common.{◌≡◌, ℕ, ◌+◌, ◌*◌, List, ◌++◌, take, drop, Option, sym, subst, ap, ◌∙◌}
use Rattle.std.proofs.KnownBytes.{Appends-trans}
use Rattle.std.proofs.lemmas.Grind.{flat_map-append}
use Rattle.std.proofs.lemmas.List.{take-append-drop}
use Rattle.std.specs.Io.KnownBytes.{Appends}
use Rattle.action_tables.specs.Written.{AppendsPrefix}
use Rattle.action_tables.proofs.Prefixes.{AppendsPrefix-first, AppendsPrefix-then}
use Rattle.history.specs.declared.entry.Entry.{Entry}
use Rattle.history.specs.HistoryText.{ended, entries_text, entry_line}
use Rattle.history.proofs.Pieces.{pieces_next}

-- the lines up to a segment, and its own
text_next : (es : List Entry) (k : ℕ) → entries_text (take ((k + 1) * 1024) es)
    ≡ entries_text (take (k * 1024) es) ++ entries_text (take 1024 (drop (k * 1024) es))
text_next es k =
    ap entries_text (pieces_next es k)
    ∙ flat_map-append (λ entry. ended (entry_line entry)) (take (k * 1024) es) (take 1024 (drop (k * 1024) es))

text_cut : (es : List Entry) (n : ℕ) → entries_text es ≡ entries_text (take n es) ++ entries_text (drop n es)
text_cut es n =
    ap entries_text (sym (take-append-drop n es))
    ∙ flat_map-append (λ entry. ended (entry_line entry)) (take n es) (drop n es)

pub writes_next : (a b c : Option (List ℕ)) (es : List Entry) (k : ℕ) → Appends a b (entries_text (take (k * 1024) es))
    → Appends b c (entries_text (take 1024 (drop (k * 1024) es)))
    → Appends a c (entries_text (take ((k + 1) * 1024) es))
writes_next a b c es k so_far next =
    subst (Appends a c) (sym (text_next es k))
    (Appends-trans a b c (entries_text (take (k * 1024) es)) (entries_text (take 1024 (drop (k * 1024) es))) so_far
    next)

pub writes_prefix : (a b c : Option (List ℕ)) (es : List Entry) (k : ℕ)
    → Appends a b (entries_text (take (k * 1024) es))
    → AppendsPrefix b c (entries_text (take 1024 (drop (k * 1024) es))) → AppendsPrefix a c (entries_text es)
writes_prefix a b c es k so_far prefix =
    let upto = (k + 1) * 1024 in
    let here = AppendsPrefix-then a b c (entries_text (take (k * 1024) es)) (entries_text (take 1024 (drop (k * 1024)
    es))) so_far prefix in
    subst (AppendsPrefix a c) (sym (text_cut es upto))
    (AppendsPrefix-first a c (entries_text (take upto es)) (entries_text (drop upto es))
    (subst (AppendsPrefix a c) (sym (text_next es k)) here))
