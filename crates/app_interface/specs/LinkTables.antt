-- The link tables of the applications: a row that holds is a fault, and does nothing.
use Rattle.std.specs.Prelude.{ℕ, Bool, List, Option, codes, slice_get}
use Rattle.action_tables.specs.Table.{Row, enabled_of}

-- a row: its number, its name, its guard's text, and whether it holds
abbrev pub link_row : ℕ → List ℕ → List ℕ → Bool → Row (Unit {0})
link_row number name guard holds = record {
  number = number;
  name = name;
  guard = guard;
  effect = codes "fault";
  holds = holds;
  does = tt;
}

-- the least of the rows that hold, if one does
abbrev pub least_fault : List (Row (Unit {0})) → Option ℕ
least_fault rows = slice_get (enabled_of rows) 0
