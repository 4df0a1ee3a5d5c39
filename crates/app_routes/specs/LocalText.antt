-- The text of a local state, and the local state of a text.
use Rattle.std.specs.Prelude.{ℕ, ◌&&◌, if◌then◌else◌, List, [], ◌∷◌, Option, Some, None}
use Rattle.std.specs.Fmt.{decimal}
use Rattle.std.specs.List.{join_with_byte}
use Rattle.std.specs.Str.{bytes_eq}
use Rattle.action_tables.specs.Lists.{list_text}
use Rattle.app_interface.specs.FromText.{items_of, number_of, part_of}
use Rattle.app_routes.specs.Entries.{are_routes}
use Rattle.app_routes.specs.declared.entry.Entry.{Entry}

-- the three numbers, joined by colons
abbrev pub entry_text : Entry → List ℕ
entry_text e = join_with_byte 58 (decimal e.destination ∷ decimal e.hops ∷ decimal e.next ∷ [])

-- the entries joined by commas, or - where there is none
abbrev pub routes_text : List Entry → List ℕ
routes_text = list_text entry_text

-- the entry that a text spells by its parts between colons
abbrev pub entry_spelled_by : List ℕ → Entry
entry_spelled_by text = record {
  destination = number_of (part_of 58 text 0);
  hops = number_of (part_of 58 text 1);
  next = number_of (part_of 58 text 2);
}

-- what a text spells by its parts between commas
abbrev pub spelled_by : List ℕ → List Entry
spelled_by text = items_of entry_spelled_by text

-- the local state with a text: what it spells, where that is a local state and has the text
abbrev pub routes_from_text : List ℕ → Option (List Entry)
routes_from_text text =
    if are_routes (spelled_by text) && bytes_eq (routes_text (spelled_by text)) text
    then Some (spelled_by text)
    else None
