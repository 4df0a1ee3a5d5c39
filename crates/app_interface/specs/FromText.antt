-- What a text spells: a number, the parts that a byte cuts it into, and a list.
use Rattle.std.specs.Prelude.{ℕ, ◌==◌, ◌%◌, ◌^◌, if◌then◌else◌, List, [], map, codes, slice_index_or}
use Rattle.std.specs.List.{slice_split}
use Rattle.std.specs.Str.{bytes_eq}
use Rattle.std.specs.Str.Parse.{digits_value}

-- the number that digits write, modulo 2 ^ 32
abbrev pub number_of : List ℕ → ℕ
number_of digits = digits_value 10 digits % 2 ^ 32

-- the part at a place, which counts from 0, of a text that is cut at each such byte
abbrev pub part_of : ℕ → List ℕ → ℕ → List ℕ
part_of byte text place = slice_index_or (slice_split (λ b. b == byte) text) place []

-- the items of a list by its text: none by a dash, and else one by each part between commas
abbrev pub items_of : {X : Type 0} → (List ℕ → X) → List ℕ → List X
items_of item text = if bytes_eq text (codes "-") then [] else map item (slice_split (λ b. b == 44) text)
