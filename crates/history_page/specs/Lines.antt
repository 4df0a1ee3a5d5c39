-- The lines of the data of a page.
use Rattle.std.specs.Prelude.{ℕ, ◌+◌, ◌/◌, ◌%◌, ◌==◌, ◌&&◌, nat_le, nat_lt, not, if◌then◌else◌, Bool, List, [], ◌∷◌, ◌++◌}
use Rattle.std.specs.List.{flat_map}

-- a byte that stands in the data as it is: a printable one other than `<`, by which alone the data could end, and `%`
abbrev pub is_plain : ℕ → Bool
is_plain b = nat_le 32 b && nat_le b 126 && not (b == 60) && not (b == 37)

-- the hexadecimal digit of a number below 16
abbrev pub hex_digit : ℕ → ℕ
hex_digit n = if nat_lt n 10 then 48 + n else 87 + n

-- a byte as the data has it: as it is, or as `%` and two hexadecimal digits
abbrev pub encoded_byte : ℕ → List ℕ
encoded_byte b = if is_plain b then b ∷ [] else 37 ∷ hex_digit (b / 16) ∷ hex_digit (b % 16) ∷ []

-- a line of the data, with its line feed
abbrev pub line_text : List ℕ → List ℕ
line_text line = flat_map encoded_byte line ++ 10 ∷ []

-- lines of the data
abbrev pub lines_text : List (List ℕ) → List ℕ
lines_text lines = flat_map line_text lines
