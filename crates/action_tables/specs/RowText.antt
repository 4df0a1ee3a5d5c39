-- What parts of a line and rows in print write.
use Rattle.std.specs.Prelude.{ℕ, ◌&&◌, nat_lt, if◌then◌else◌, List, [], ◌∷◌}
use Rattle.action_tables.specs.Lists.{list_text}
use Rattle.action_tables.specs.Numbers.{is_among}
use Rattle.std.specs.Fmt.{decimal}
use Rattle.action_tables.specs.declared.part.Part.{Part}
use Rattle.action_tables.specs.declared.part.Part.TheVariants.{Text, Number, Cases}
use Rattle.action_tables.specs.declared.row.CaseRow.{CaseRow}
use Rattle.action_tables.specs.Table.{PrintedRow}

-- what a row prints
abbrev pub as_printed : CaseRow → PrintedRow
as_printed row = record { number = row.number; name = row.name.now; guard = row.guard.now; effect = row.effect.now }

-- the numbers of a set, joined by commas, or a dash where there is none
abbrev pub set_text : List ℕ → List ℕ
set_text = list_text decimal

-- what a part of a line writes
abbrev pub part_text : Part → List ℕ
part_text (Text text) = text.now
part_text (Number n) = decimal n
part_text (Cases set) = set_text set

-- a comma and the number of a case, where it is in the set and above n
abbrev pub case_above : List ℕ → ℕ → ℕ → List ℕ
case_above set n case = if is_among case set && nat_lt n case then 44 ∷ decimal case else []
