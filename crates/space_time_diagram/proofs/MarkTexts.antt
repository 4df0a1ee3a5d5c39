-- The marks of entries that are written one after another.
use Rattle.std.proofs.Common.{◌≡◌, ℕ, zero, suc, ◌+◌, ◌<◌, List, [], ◌∷◌, ◌++◌, length, take, drop, get_or, Option}
use Rattle.std.proofs.Common.{Some, None}
use Rattle.std.proofs.Common.{sym, ap, ◌∙◌, append_assoc, append-nil, add-zero, add-one, arith}
use Rattle.std.specs.Io.KnownBytes.{Appends}
use Rattle.std.proofs.KnownBytes.{Appends-trans}
use Rattle.action_tables.specs.Written.{AppendsPrefix}
use Rattle.action_tables.proofs.Prefixes.{AppendsPrefix-first, AppendsPrefix-then}
use Rattle.history.specs.declared.entry.Entry.{Entry}
use Rattle.space_time_diagram.specs.Marks.{mark, marks_from}

module _ (lane : ℕ → Option ℕ) (earlier : ℕ) where
  abbrev marks : ℕ → List Entry → List ℕ
  marks place es = marks_from lane earlier place es

  abbrev row : ℕ → Entry → List ℕ
  row place e = mark lane earlier place e

  marks_next : (p : ℕ) (es : List Entry) (i : ℕ) (d : Entry) → i < length es
      → marks p (take (suc i) es) ≡ marks p (take i es) ++ row (p + i) (get_or es i d)
  unfolding marks_from
  marks_next p [] i d h = absurd (omega arith)
  marks_next p (e ∷ es) zero d h =
      append-nil (row p e) ∙ ap (λ k. row k e) (sym (add-zero p))
  marks_next p (e ∷ es) (suc i) d h =
      let place : (p + 1) + i ≡ p + suc i = omega arith in
      ap (λ t. row p e ++ t) (marks_next (p + 1) es i d (omega arith)
      ∙ ap (λ k. marks (p + 1) (take i es) ++ row k (get_or es i d)) place)
      ∙ sym (append_assoc (row p e) _ _)

  marks_cut : (p : ℕ) (es : List Entry) (i : ℕ) (d : Entry) → i < length es
      → marks p es
      ≡ marks p (take i es) ++ (row (p + i) (get_or es i d) ++ marks (p + i + 1) (drop (suc
      i) es))
  unfolding marks_from
  marks_cut p [] i d h = absurd (omega arith)
  marks_cut p (e ∷ es) zero d h = ap (λ k. row k e ++ marks (k + 1) es) (sym (add-zero p))
  marks_cut p (e ∷ es) (suc i) d h =
      let place : (p + 1) + i ≡ p + suc i = omega arith in
      ap (λ t. row p e ++ t) (marks_cut (p + 1) es i d (omega arith)
      ∙ ap (λ k. marks (p + 1) (take i es) ++ (row k (get_or es i d) ++ marks (k + 1) (drop
      (suc i) es))) place)
      ∙ sym (append_assoc (row p e) _ _)

  -- the marks before the i-th were written, and then the i-th
  pub marks_more : (a b c : Option (List ℕ)) (es : List Entry) (i place : ℕ) (d : Entry) → i < length es
      → place ≡ i + 1 → Appends a b (marks 1 (take i es)) → Appends b c (row place (get_or es i d))
      → Appends a c (marks 1 (take (i + 1) es))
  marks_more a b c es i place d h is before here =
      let at : 1 + i ≡ place = omega arith in
      rw (add-one, marks_next 1 es i d h, at)
      (Appends-trans a b c (marks 1 (take i es)) (row place (get_or es i d)) before here)

  -- and the i-th failed
  pub marks_stopped : (a b c : Option (List ℕ)) (es : List Entry) (i place : ℕ) (d : Entry) → i < length es
      → place ≡ i + 1 → Appends a b (marks 1 (take i es))
      → AppendsPrefix b c (row place (get_or es i d)) → AppendsPrefix a c (marks 1 es)
  marks_stopped a b c es i place d h is before here =
      let at : 1 + i ≡ place = omega arith in
      rw (marks_cut 1 es i d h, at)
      (AppendsPrefix-then a b c (marks 1 (take i es)) (row place (get_or es i d)
      ++ marks (place + 1) (drop (suc i) es)) before
      (AppendsPrefix-first b c (row place (get_or es i d)) (marks (place + 1) (drop (suc i)
      es)) here))

  -- before the first nothing was written
  pub marks_before : (a : Option (List ℕ)) → Appends a a (marks 1 [])
  unfolding marks_from
  marks_before None = tt
  marks_before (Some xs) = sym (append-nil xs)
