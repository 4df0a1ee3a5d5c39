-- A row is among the enabled ones exactly where its guard holds.
use Rattle.std.proofs.Common.{◌≡◌, ℕ, Bool, true, false, cond, ◌&&◌, ◌||◌, ◌==◌, List, [], ◌∷◌, map, filter, refl, sym, ap, ◌∙◌}
use Rattle.std.specs.List.{list_any}
use Rattle.action_tables.specs.Numbers.{is_among}
use Rattle.action_tables.specs.Table.{Row, enabled_of}

and_true : (b : Bool) → (b && true) ≡ b
and_true true = refl
and_true false = refl

and_false : (b : Bool) → (b && false) ≡ false
and_false true = refl
and_false false = refl

-- some of the rows has this number, and its guard holds
abbrev pub row_holds : {E : Type 0} → ℕ → List (Row E) → Bool
row_holds n rows = list_any (λ row. row.number == n && row.holds) rows

pub among_enabled : {E : Type 0} (n : ℕ) (rows : List (Row E)) → is_among n (enabled_of rows) ≡ row_holds n rows
unfolding enabled_of
among_enabled n [] = refl
among_enabled n (row ∷ rows) =
    let rest = among_enabled n rows in
    let later = filter (λ r. r.holds) rows in
    let any = row_holds n rows in
    elim row.holds
    as (λ b. is_among n (map (λ r. r.number) (cond b (row ∷ later) later)) ≡ ((row.number == n && b) || any)) [
      | true ↦ ap (λ b. (row.number == n) || b) rest ∙ ap (λ b. b || any) (sym (and_true (row.number == n)))
      | false ↦ rest ∙ ap (λ b. b || any) (sym (and_false (row.number == n)))
    ]
