-- Tables of guarded cases.
use Rattle.std.specs.Prelude.{ℕ, ◌==◌, ◌||◌, if◌then◌else◌, nat_lt, Bool, List, [], ◌∷◌, ◌++◌, map, codes, decimal}
use Rattle.std.specs.Prelude.{Option, Some, None, Result, Err}
use Rattle.std.specs.List.{flat_map, filter}
use Rattle.action_tables.specs.Nodes.{regs_of}

-- the texts of a row as it is printed
pub record PrintedRow : Type 0 where
  pub number : ℕ
  pub name : List ℕ
  pub guard : List ℕ
  pub effect : List ℕ

-- a row of a table: its number, its texts, whether its guard holds, and what it does
pub record Row (E : Type 0) : Type 0 where
  pub number : ℕ
  pub name : List ℕ
  pub guard : List ℕ
  pub effect : List ℕ
  pub holds : Bool
  pub does : E

-- the numbers of the rows whose guards hold. It stays folded at a table's rows: unfolded, it is a
-- tree of all the guards
unfoldable pub enabled_of : {E : Type 0} → List (Row E) → List ℕ
enabled_of rows = map (λ row. row.number) (filter (λ row. row.holds) rows)

-- what firing row n does: a refusal where no row has this number, another where the row's guard
-- doesn't hold, and else what the row does
abbrev pub fired_of : {T E : Type 0} → E → E → List (Row (Result T E)) → ℕ → Result T E
fired_of no_such_case not_enabled [] n = Err no_such_case
fired_of no_such_case not_enabled (row ∷ rows) n =
    if row.number == n then (if row.holds then row.does else Err not_enabled) else fired_of no_such_case not_enabled
    rows n

-- what a row does to which this node is named: a refusal where there is no such node
abbrev pub fired_toward : {T E R : Type 0} → E → (List (ℕ × R) → Result T E) → ℕ → Option R → Result T E
fired_toward strange fires id None = Err strange
fired_toward strange fires id (Some regs) = fires ((id, regs) ∷ [])

-- what firing row n of a table does whose rows are numbered from 1 to the last, and of which some name another
-- node: a refusal where no row has this number, another where a row that names a node is given none of these nodes,
-- or another row is given one, and else what the row does with the node that it is given
abbrev pub fired_naming : {T E R : Type 0} → ℕ → (ℕ → Bool) → E → E → E
    → (List (ℕ × R) → List (Row (Result T E))) → List (ℕ × R) → ℕ → Option ℕ → Result T E
fired_naming last names no_such_case strange not_enabled table nodes n None =
    if nat_lt n 1 || nat_lt last n then Err no_such_case
    else (if names n then Err strange else fired_of no_such_case not_enabled (table []) n)
fired_naming last names no_such_case strange not_enabled table nodes n (Some id) =
    if nat_lt n 1 || nat_lt last n then Err no_such_case
    else (if names n
    then fired_toward strange (λ asked. fired_of no_such_case not_enabled (table asked) n) id (regs_of id nodes)
    else Err strange)

abbrev pub printed : {E : Type 0} → Row E → PrintedRow
printed row = record { number = row.number; name = row.name; guard = row.guard; effect = row.effect }

-- NUMBER NAME | GUARD | EFFECT, and the end of the line
abbrev pub row_line : PrintedRow → List ℕ
row_line row =
    decimal row.number ++ codes " " ++ row.name ++ codes " | " ++ row.guard ++ codes " | " ++ row.effect ++ codes "\n"

abbrev pub title_line : List ℕ → List ℕ
title_line title = codes "table " ++ title ++ codes "\n"

-- the title's line and those of the rows
abbrev pub table_text : List ℕ → List PrintedRow → List ℕ
table_text title rows = title_line title ++ flat_map row_line rows
