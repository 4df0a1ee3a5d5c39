-- The set of enabled cases, built by putting in one number after another.
use Rattle.std.proofs.Common.{◌≡◌, ℕ, ◌<◌, ◌≤◌, Bool, true, false, cond, List, [], ◌∷◌, ◌++◌, ◌&&◌, nat_lt, refl, sym}
use Rattle.std.proofs.Common.{ap, ◌∙◌, append_assoc, append-nil, map, arith}
use Rattle.std.specs.List.{filter}
use Rattle.std.proofs.lemmas.Bool.{and_parts, ltb-true}
use Rattle.action_tables.specs.Numbers.{with_number, with_number_if}
use Rattle.action_tables.specs.LawsOfNumbers.{Each}
use Rattle.action_tables.specs.Table.{Row, enabled_of}
use Rattle.action_tables.proofs.NumberSets.{insert-more}

-- each row's number put into ns, one after another, where the row's guard holds
abbrev pub with_rows : {E : Type 0} → List ℕ → List (Row E) → List ℕ
with_rows ns [] = ns
with_rows ns (row ∷ rows) = with_rows (with_number_if row.number row.holds ns) rows

-- the rows' numbers ascend, from above n on
abbrev pub rise_from : {E : Type 0} → ℕ → List (Row E) → Bool
rise_from n [] = true
rise_from n (row ∷ rows) = nat_lt n row.number && rise_from row.number rows

-- a number above all others goes to the end
insert_last : (ns : List ℕ) (n : ℕ) → Each (λ m. m < n) ns → with_number n ns ≡ ns ++ n ∷ []
insert_last [] n h = refl
insert_last (m ∷ ns) n h = insert-more n m ns h.0 ∙ ap (λ l. m ∷ l) (insert_last ns n h.1)

each_below : (n k : ℕ) (ns : List ℕ) → n < k → Each (λ m. m ≤ n) ns → Each (λ m. m < k) ns
each_below n k [] h all = tt
each_below n k (m ∷ ns) h all = let low : m ≤ n = all.0 in (omega arith, each_below n k ns h all.1)

each_up_to : (n k : ℕ) (ns : List ℕ) → n < k → Each (λ m. m ≤ n) ns → Each (λ m. m ≤ k) ns
each_up_to n k [] h all = tt
each_up_to n k (m ∷ ns) h all = let low : m ≤ n = all.0 in (omega arith, each_up_to n k ns h all.1)

each_append : (P : ℕ → Type 0) (ns : List ℕ) (n : ℕ) → Each P ns → P n → Each P (ns ++ n ∷ [])
each_append P [] n all p = (p, tt)
each_append P (m ∷ ns) n all p = (all.0, each_append P ns n all.1 p)

with_rows-append : {E : Type 0} (ns : List ℕ) (n : ℕ) (rows : List (Row E)) → Each (λ m. m ≤ n) ns
    → rise_from n rows ≡ true → with_rows ns rows ≡ ns ++ enabled_of rows
unfolding with_number_if enabled_of
with_rows-append ns n [] all rise = sym (append-nil ns)
with_rows-append ns n (row ∷ rows) all rise =
    let k : ℕ = row.number in
    let same : k ≤ k = omega arith in
    let parts = and_parts (nat_lt n k) (rise_from k rows) rise in
    let more : n < k = ltb-true n k parts.0 in
    let kept = filter (λ r. r.holds) rows in
    elim row.holds
    as (λ b. with_rows (with_number_if k b ns) rows ≡ ns ++ map (λ r. r.number) (cond b (row ∷ kept) kept)) [
      | true ↦
          ap (λ ms. with_rows ms rows) (insert_last ns k (each_below n k ns more all))
          ∙ with_rows-append (ns ++ k ∷ []) k rows (each_append (λ m. m ≤ k) ns k (each_up_to n k ns more all) same)
          parts.1
          ∙ append_assoc ns (k ∷ []) (enabled_of rows)
      | false ↦ with_rows-append ns k rows (each_up_to n k ns more all) parts.1
    ]

-- the numbers of a table's rows, put in one after another from none on where their guards hold,
-- are those of the rows that are enabled
pub with_rows-enabled : {E : Type 0} (rows : List (Row E)) → rise_from 0 rows ≡ true
    → with_rows [] rows ≡ enabled_of rows
with_rows-enabled rows rise = with_rows-append [] 0 rows tt rise
