-- A table that is written row by row.
use Rattle.std.proofs.Common.{ℕ, ◌<◌, ◌≤◌, List, Option, length, take, get_or, map, subst}
use Rattle.std.specs.List.{flat_map}
use Rattle.std.specs.Io.KnownBytes.{Appends}
use Rattle.std.proofs.KnownBytes.{Appends-trans}
use Rattle.std.proofs.lemmas.List.{take_all}
use Rattle.std.proofs.lemmas.List.Folds.{flat_map-map}
use Rattle.action_tables.specs.declared.row.CaseRow.{CaseRow}
use Rattle.action_tables.specs.RowText.{as_printed}
use Rattle.action_tables.specs.Table.{row_line, title_line, table_text}
use Rattle.action_tables.specs.Written.{AppendsPrefix}
use Rattle.action_tables.proofs.Prefixes.{AppendsPrefix-first, AppendsPrefix-then}
use Rattle.action_tables.proofs.Pieces.{AppendsPrefix-piece}

abbrev pub line_of : CaseRow → List ℕ
line_of row = row_line (as_printed row)

-- the title's line failed
pub table_text-no_title : (a b : Option (List ℕ)) (title : List ℕ) (rows : List CaseRow)
    → AppendsPrefix a b (title_line title) → AppendsPrefix a b (table_text title (map as_printed rows))
table_text-no_title a b title rows h =
    AppendsPrefix-first a b (title_line title) (flat_map row_line (map as_printed rows)) h

-- the line of the i-th row failed
pub table_text-no_row : (a u b c : Option (List ℕ)) (title : List ℕ) (rows : List CaseRow) (i : ℕ) (d : CaseRow)
    → i < length rows
    → Appends a u (title_line title) → Appends u b (flat_map line_of (take i rows))
    → AppendsPrefix b c (line_of (get_or rows i d))
    → AppendsPrefix a c (table_text title (map as_printed rows))
table_text-no_row a u b c title rows i d h first before here =
    rw (flat_map-map row_line as_printed rows)
    (AppendsPrefix-then a u c (title_line title) (flat_map line_of rows) first
    (AppendsPrefix-piece u b c line_of rows i d h before here))

-- all lines were written
pub table_text-whole : (a u b : Option (List ℕ)) (title : List ℕ) (rows : List CaseRow) (i : ℕ) → length rows ≤ i
    → Appends a u (title_line title) → Appends u b (flat_map line_of (take i rows))
    → Appends a b (table_text title (map as_printed rows))
table_text-whole a u b title rows i h first lines =
    rw (flat_map-map row_line as_printed rows)
    (Appends-trans a u b (title_line title) (flat_map line_of rows) first
    (let P : List CaseRow → Type 0 = λ l. Appends u b (flat_map line_of l) in subst P (take_all i rows h) lines))
